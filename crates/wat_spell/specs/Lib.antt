pub mod Growing
pub mod Spelling
pub mod Statements
pub mod Tokens
