pub mod Finds
pub mod Guarding
pub mod Locked
pub mod Moves
pub mod Visited
