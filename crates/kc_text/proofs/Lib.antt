pub mod Different
pub mod Reading
pub mod Spelling
pub mod Transcoding
