pub mod Files
pub mod Frames
pub mod Lists
pub mod Telling
pub mod Texts
