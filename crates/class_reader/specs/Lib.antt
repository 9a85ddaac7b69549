pub mod Reads
pub mod Descriptors
pub mod Pools
pub mod Forms
pub mod Frames
pub mod Locals
pub mod Codes
pub mod Members
