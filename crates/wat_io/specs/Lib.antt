pub mod Calls
pub mod Readers
pub mod Scripts
pub mod MemoryScripts
pub mod Sink
pub mod MemorySink
