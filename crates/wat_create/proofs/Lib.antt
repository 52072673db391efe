pub mod New
pub mod Sound
pub mod Unmade
pub mod Written
