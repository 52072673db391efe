pub mod Between
pub mod Numbers
pub mod Schedule
pub mod Session
pub mod Statements
pub mod Worked
