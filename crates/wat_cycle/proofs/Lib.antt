pub mod Acyclic
pub mod ArcLemmas
pub mod BlockLemmas
pub mod EdgeLemmas
pub mod LevelLemmas
pub mod SearchLemmas
pub mod WalkLemmas
