pub mod Places
pub mod Labels
pub mod Jumps
pub mod Conditionals
pub mod Locals
pub mod Loops
