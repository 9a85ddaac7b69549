pub mod Constructors
pub mod Parameters
pub mod Supertypes
