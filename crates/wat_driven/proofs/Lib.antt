pub mod ChangeLemmas
pub mod DrivenLemmas
pub mod EndingLemmas
