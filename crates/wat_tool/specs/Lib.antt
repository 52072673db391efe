pub mod Called
pub mod Dumps
pub mod Ending
pub mod Finishes
pub mod ReadingBack
pub mod Reporting
pub mod Steps
