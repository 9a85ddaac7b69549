pub mod Kinds
pub mod Levels
pub mod Nesting
pub mod Files
