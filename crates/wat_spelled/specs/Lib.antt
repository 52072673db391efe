pub mod Changes
pub mod Schema
