pub mod Inheriting
pub mod Scans
pub mod Visiting
