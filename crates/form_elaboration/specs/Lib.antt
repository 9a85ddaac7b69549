pub mod Names
pub mod Nodes
pub mod Expressions
pub mod Statements
pub mod Elaboration
pub mod Laws
pub mod Form
pub mod Light
