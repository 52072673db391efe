pub mod Kept
pub mod Payload
