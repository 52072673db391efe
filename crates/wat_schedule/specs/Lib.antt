pub mod Schedule
pub mod Worked
