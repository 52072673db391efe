pub mod Look
pub mod Recorded
pub mod Running
pub mod Scans
pub mod Sources
pub mod Still
pub mod Told
pub mod Transactions
