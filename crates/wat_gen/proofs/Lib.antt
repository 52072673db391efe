pub mod Beginning
pub mod Counting
pub mod Drawing
pub mod Room
