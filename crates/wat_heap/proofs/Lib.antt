pub mod Counts
pub mod Doing
pub mod Finding
pub mod Moving
pub mod OneRow
pub mod Rooming
pub mod Sizes
pub mod Taken
