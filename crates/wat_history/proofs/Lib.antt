pub mod HistoryLemmas
pub mod SerialLemmas
pub mod OpenLemmas
pub mod SingleLemmas
pub mod WholeLemmas
pub mod Examples
