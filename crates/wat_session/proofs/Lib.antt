pub mod Restarting
pub mod Committing
pub mod Stopping
pub mod Entries
