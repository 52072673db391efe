pub mod Examples
pub mod Members
pub mod Placed
pub mod Rules
pub mod Values
