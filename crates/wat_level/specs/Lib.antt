pub mod Change
pub mod Placed
pub mod Visit
pub mod Wanted
