pub mod Ready
pub mod Tied
pub mod Told
