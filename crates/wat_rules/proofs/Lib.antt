pub mod AgainLemmas
pub mod AllowedLemmas
pub mod ChangeLemmas
pub mod CheckLemmas
pub mod SettledLemmas
