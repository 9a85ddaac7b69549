pub mod Scanning
pub mod LoneNames
pub mod FileRows
