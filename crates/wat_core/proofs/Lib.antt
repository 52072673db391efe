pub mod CoreLemmas
pub mod PartLemmas
pub mod TellLemmas
pub mod OpenLemmas
pub mod SaveLemmas
