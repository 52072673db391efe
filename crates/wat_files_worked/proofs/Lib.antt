pub mod Agreeing
pub mod Broken
pub mod Headed
pub mod Pages
pub mod Whole
