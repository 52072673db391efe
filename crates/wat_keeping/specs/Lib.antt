pub mod Durable
pub mod Kept
pub mod Steps
