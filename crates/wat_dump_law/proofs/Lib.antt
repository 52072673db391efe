pub mod Steps
pub mod Rows
pub mod Last
pub mod OneTable
pub mod All
pub mod Plain
pub mod Names
