pub mod Keeping
pub mod Loading
pub mod Spelling
