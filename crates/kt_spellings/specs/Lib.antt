pub mod Spellings
pub mod Laws
pub mod Cut
