pub mod Covering
pub mod Heads
pub mod Laid
