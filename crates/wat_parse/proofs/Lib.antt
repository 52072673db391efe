pub mod Groups
pub mod Parsing
pub mod Spans
