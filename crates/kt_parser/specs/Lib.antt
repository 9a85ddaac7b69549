pub mod Primaries
pub mod Statements
pub mod Readers
