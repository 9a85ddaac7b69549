pub mod TokenRows
pub mod Choices
pub mod SetterRows
pub mod GetterRows
pub mod PropertyRows
pub mod ModifierRows
pub mod MemberRows
