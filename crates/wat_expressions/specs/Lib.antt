pub mod Applied
pub mod Nests
