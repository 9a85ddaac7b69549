pub mod Statements
pub mod Terminals
pub mod Looks
pub mod Lambdas
pub mod Tries
pub mod Supers
