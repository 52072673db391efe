pub mod Bringing
pub mod Opening
pub mod Refusal
