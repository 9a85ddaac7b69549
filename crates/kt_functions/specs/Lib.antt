pub mod Modifiers
pub mod TypeParameters
pub mod Values
pub mod Parameters
pub mod Sites
pub mod Receivers
pub mod Functions
