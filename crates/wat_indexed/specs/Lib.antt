pub mod Indexed
pub mod Sound
