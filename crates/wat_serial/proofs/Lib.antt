pub mod Inserted
pub mod Meanings
pub mod Running
pub mod PlainLemmas
