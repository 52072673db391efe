pub mod LockLemmas
pub mod SpotLemmas
