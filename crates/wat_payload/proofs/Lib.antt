pub mod Cutting
pub mod Going
pub mod Laying
pub mod Links
pub mod Seen
pub mod Starting
