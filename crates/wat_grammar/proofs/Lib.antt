pub mod Choice
pub mod Complete
pub mod Exact
pub mod Online
pub mod Outcomes
pub mod Sound
pub mod Viable
