pub mod Changing
pub mod Duplicates
pub mod Script
pub mod Plain
