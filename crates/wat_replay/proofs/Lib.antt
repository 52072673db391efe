pub mod Moves
pub mod Sliding
pub mod Replaying
pub mod Committing
