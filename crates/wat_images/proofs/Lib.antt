pub mod Frames
pub mod Images
pub mod Laying
pub mod Maps
pub mod Refused
pub mod Sequence
pub mod Writing
