pub mod Trial
pub mod Undoing
