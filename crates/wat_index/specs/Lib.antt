pub mod Held
pub mod KeySets
