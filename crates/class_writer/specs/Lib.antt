pub mod Indexes
pub mod Fits
pub mod Examples
