pub mod Changes
pub mod Check
pub mod Rules
