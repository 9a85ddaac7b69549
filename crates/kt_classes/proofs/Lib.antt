pub mod Parts
pub mod BodyRows
pub mod ClassRows
