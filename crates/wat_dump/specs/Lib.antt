pub mod Dump
pub mod Dumping
