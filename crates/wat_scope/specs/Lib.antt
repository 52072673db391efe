pub mod Joining
pub mod Scope
