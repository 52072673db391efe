pub mod Conflict
pub mod Hashing
pub mod HashingLaws
pub mod Held
pub mod Order
pub mod OrderLaws
pub mod Tables
