pub mod Chains
pub mod Spelled
pub mod Writes
