pub mod Going
pub mod Linking
pub mod Reading
