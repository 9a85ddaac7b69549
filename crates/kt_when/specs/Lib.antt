pub mod Relations
pub mod Conditions
pub mod Branches
pub mod Subjects
