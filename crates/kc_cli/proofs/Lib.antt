pub mod Compiled
pub mod Executing
pub mod Loading
mod ClassNames
mod Commands
mod Paths
