pub mod Acts
pub mod Bytes
pub mod Groups
pub mod Local
pub mod Pieces
pub mod Running
pub mod Script
pub mod Stands
