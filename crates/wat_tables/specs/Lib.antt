pub mod Held
pub mod Acting
