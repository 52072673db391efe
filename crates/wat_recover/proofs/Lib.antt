pub mod Going
pub mod Asking
pub mod Stepping
pub mod Listing
