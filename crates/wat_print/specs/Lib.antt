pub mod Literal
pub mod Locks
pub mod Answers
pub mod Printed
