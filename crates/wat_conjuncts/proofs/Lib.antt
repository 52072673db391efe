pub mod ConjunctLemmas
pub mod LimitLemmas
pub mod OutsideLemmas
pub mod ReadingLemmas
pub mod SameReading
