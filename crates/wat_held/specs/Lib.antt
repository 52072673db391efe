pub mod Held
pub mod Owning
