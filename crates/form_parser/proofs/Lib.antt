pub mod Cuts
pub mod Decimals
pub mod Forms
pub mod Readings
pub mod Sizes
pub mod Trees
