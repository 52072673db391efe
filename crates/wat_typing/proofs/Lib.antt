pub mod AggregateLemmas
pub mod BareLemmas
pub mod ChainLemmas
pub mod RuleLemmas
pub mod Spots
pub mod Steps
