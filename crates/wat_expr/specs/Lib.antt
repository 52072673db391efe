pub mod Logic
pub mod Operators
pub mod Aggregates
pub mod Evaluation
pub mod Private
