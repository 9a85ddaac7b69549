pub mod ConditionRows
pub mod BranchRows
pub mod SubjectRows
