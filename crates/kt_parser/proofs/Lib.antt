pub mod PrimaryRows
pub mod StatementRows
