pub mod Moves
pub mod Suffixes
