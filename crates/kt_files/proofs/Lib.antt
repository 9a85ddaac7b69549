pub mod HeadRows
pub mod ModifierRows
pub mod UnmodifiedRows
pub mod ListRows
pub mod FileRows
