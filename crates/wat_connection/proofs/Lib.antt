pub mod SavepointLemmas
pub mod TransactionLemmas
