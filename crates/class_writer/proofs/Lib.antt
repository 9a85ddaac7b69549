pub mod Grammar
pub mod Slots
pub mod Fitting
pub mod Examples
pub mod Behind
pub mod Spelled
