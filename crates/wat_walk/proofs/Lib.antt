pub mod AggregateLemmas
pub mod Chains
pub mod FoldLemmas
