pub mod Committed
pub mod Replay
pub mod State
