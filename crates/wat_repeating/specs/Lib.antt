pub mod MoveProofs
pub mod OnPages
pub mod Repeated
