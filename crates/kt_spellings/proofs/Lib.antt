pub mod Words
pub mod Spelling
pub mod Longest
pub mod Cuts
