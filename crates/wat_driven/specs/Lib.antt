pub mod Driven
pub mod Ending
