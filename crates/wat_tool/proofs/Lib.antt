pub mod BackLemmas
pub mod SinkLemmas
pub mod SessionLemmas
pub mod CalledLemmas
pub mod EndingLemmas
pub mod StatusLemmas
pub mod UntouchedLemmas
