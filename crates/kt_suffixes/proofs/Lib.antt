pub mod Within
pub mod Runs
