pub mod Answering
pub mod Brought
pub mod Finishing
pub mod Reading
