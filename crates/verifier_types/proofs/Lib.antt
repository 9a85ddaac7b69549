pub mod Lists
pub mod BuiltIns
pub mod Chains
pub mod ArrayNames
pub mod Elements
pub mod Spelling
pub mod Positions
