pub mod Chains
pub mod ScopeLemmas
