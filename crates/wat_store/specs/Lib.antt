pub mod Parts
pub mod Saving
pub mod Store
