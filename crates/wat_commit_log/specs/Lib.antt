pub mod Laws
pub mod Logged
pub mod Making
pub mod Opened
pub mod Opening
pub mod Pending
pub mod Reading
