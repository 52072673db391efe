pub mod Acts
pub mod Bytes
pub mod Disk
pub mod Kept
pub mod LeftProofs
pub mod Memory
pub mod MemoryDisk
pub mod Picks
