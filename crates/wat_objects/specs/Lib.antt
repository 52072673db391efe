pub mod Altering
pub mod Chains
pub mod Objects
