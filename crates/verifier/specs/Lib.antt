pub mod Flags
pub mod Fits
pub mod Sweeping
pub mod Carrying
pub mod Turns
pub mod Answers
pub mod Whole
