pub mod Choice
pub mod Plans
pub mod Private
pub mod Scanned
