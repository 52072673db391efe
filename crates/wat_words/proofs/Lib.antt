pub mod Undashed
pub mod TopLaw
pub mod PlainWalk
pub mod LeafLaws
pub mod WordsLaw
pub mod ReadLemmas
