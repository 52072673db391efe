pub mod Holding
pub mod Inserting
pub mod Linked
pub mod Opened
pub mod Owned
pub mod Owning
pub mod Walked
