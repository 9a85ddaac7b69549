pub mod MemberWords
pub mod Setters
pub mod Getters
pub mod Properties
pub mod Modifiers
pub mod Members
