pub mod AskLemmas
pub mod FreedLemmas
pub mod HeldLemmas
pub mod PlaceLemmas
pub mod PutLemmas
pub mod ReleaseLemmas
pub mod TableLemmas
pub mod UpdateLemmas
