pub mod NoSyntax
pub mod Ways
pub mod Standing
