pub mod Roots
pub mod Went
