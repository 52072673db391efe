pub mod Saving
pub mod Session
pub mod Playing
