pub mod Ends
pub mod Intervals
pub mod Tests
