pub mod Marks
pub mod Calls
pub mod Suffixes
pub mod Strings
