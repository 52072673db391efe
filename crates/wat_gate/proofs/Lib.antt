pub mod Append
pub mod Clear
pub mod Frames
pub mod Logs
mod Relation
pub mod Runs
pub mod Walk
