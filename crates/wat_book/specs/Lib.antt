pub mod Book
pub mod Chains
