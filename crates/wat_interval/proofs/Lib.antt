pub mod Empty
pub mod EndLemmas
pub mod Exact
pub mod TakenLemmas
