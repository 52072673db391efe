pub mod Arcs
pub mod Levels
pub mod Waits
pub mod Walk
