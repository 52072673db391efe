pub mod LogLaws
pub mod Committing
pub mod WritingLemmas
pub mod MakingLemmas
pub mod PendingLemmas
pub mod BodyLemmas
pub mod Refused
