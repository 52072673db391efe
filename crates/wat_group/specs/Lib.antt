pub mod Order
pub mod OrderLaws
pub mod Private
pub mod Query
