pub mod Head
pub mod Images
pub mod Opening
pub mod Restored
pub mod Safe
