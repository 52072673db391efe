pub mod Catalog
pub mod Changes
pub mod Definitions
pub mod Kept
pub mod Making
pub mod Stored
pub mod Tables
