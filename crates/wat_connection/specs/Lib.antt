pub mod Reading
pub mod Savepoints
pub mod Transactions
pub mod Room
