pub mod Asked
pub mod Nesting
pub mod Seeing
pub mod Sourced
pub mod Taking
