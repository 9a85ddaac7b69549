pub mod Heads
pub mod Unmodified
pub mod Files
