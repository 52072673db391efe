pub mod Conjuncts
pub mod Limits
pub mod Outside
pub mod Usable
