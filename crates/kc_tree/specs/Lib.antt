pub mod CodeNames
