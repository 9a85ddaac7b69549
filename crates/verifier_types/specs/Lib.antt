pub mod Seen
pub mod Frames
pub mod Names
pub mod Calls
pub mod Places
