pub mod Logging
pub mod Others
pub mod Telling
pub mod Together
pub mod Whole
