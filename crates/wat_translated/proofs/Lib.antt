pub mod Named
pub mod Transactions
