pub mod Told
pub mod Memory
pub mod Entries
pub mod Files
pub mod Causes
