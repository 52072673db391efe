pub mod Finding
pub mod Holding
pub mod Lawful
pub mod Opening
pub mod Paths
pub mod Replaying
pub mod Walking
