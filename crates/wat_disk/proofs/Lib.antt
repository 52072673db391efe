pub mod Stops
pub mod Writes
pub mod Record
mod Room
mod Picked
