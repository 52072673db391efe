pub mod Alone
pub mod Committing
pub mod Names
