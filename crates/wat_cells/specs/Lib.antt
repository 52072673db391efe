pub mod Edit
pub mod Going
pub mod Wrote
