pub mod Sights
pub mod Forms
pub mod Clear
pub mod Unread
