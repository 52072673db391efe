pub mod Bodies
pub mod Encoding
pub mod Reading
