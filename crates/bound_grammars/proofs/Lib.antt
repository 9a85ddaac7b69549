pub mod Obeying
pub mod Heeding
pub mod Minding
pub mod Checks
pub mod Fails
