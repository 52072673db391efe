pub mod Heaps
pub mod Taking
