pub mod Chains
pub mod Formed
pub mod Pages
pub mod Rows
