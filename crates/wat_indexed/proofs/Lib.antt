pub mod MadeLemmas
pub mod SourceLemmas
