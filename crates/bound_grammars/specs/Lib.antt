pub mod Obeying
pub mod Clear
pub mod Heeding
pub mod Minding
pub mod Laws
