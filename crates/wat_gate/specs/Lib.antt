pub mod Bodies
pub mod Frame
pub mod GateLog
pub mod Gates
pub mod Refusal
pub mod Runs
pub mod Written
