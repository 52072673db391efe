pub mod MakingLemmas
pub mod Writable
pub mod NamesLemmas
