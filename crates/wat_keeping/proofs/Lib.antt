pub mod Calls
pub mod Composing
pub mod Keeping
pub mod There
