pub mod LockLemmas
pub mod MoveLemmas
pub mod VisitLemmas
pub mod HeldLemmas
