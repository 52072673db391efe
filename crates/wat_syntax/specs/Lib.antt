pub mod Lexeme
pub mod Members
pub mod Parsed
pub mod Sql
pub mod Values
