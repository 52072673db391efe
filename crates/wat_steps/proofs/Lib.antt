pub mod Absent
pub mod Stopped
pub mod Worked
