pub mod Cancelling
pub mod Parts
