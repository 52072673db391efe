pub mod Cuts
pub mod KeySetLemmas
pub mod SearchLemmas
pub mod SortedLemmas
