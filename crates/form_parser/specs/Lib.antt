pub mod Cut
pub mod Grammar
pub mod Form
pub mod Pieces
pub mod Parsed
pub mod Sizes
