pub mod Fail
pub mod Modified
pub mod NameList
pub mod Unicode
