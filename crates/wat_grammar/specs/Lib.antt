pub mod Phrase
pub mod Predictive
