pub mod Chain
pub mod Lent
pub mod Parts
pub mod Queries
