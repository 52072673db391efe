pub mod Parts
pub mod Rules
pub mod Tokens
pub mod Values
