pub mod MarkRows
pub mod CallRows
pub mod SuffixRows
pub mod StringRows
