pub mod CoreParts
pub mod Opened
pub mod Parts
pub mod Telling
pub mod Savepoints
