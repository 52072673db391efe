pub mod Decided
pub mod Meeting
