pub mod AsRead
pub mod Derived
pub mod Read
pub mod Readable
