pub mod Again
pub mod ColumnLemmas
pub mod Firsts
pub mod PlaceLemmas
