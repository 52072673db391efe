pub mod Parsing
pub mod Statements
