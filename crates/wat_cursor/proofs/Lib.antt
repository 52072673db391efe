pub mod Ahead
pub mod Chains
pub mod Lists
pub mod Turns
