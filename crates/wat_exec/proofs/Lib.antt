pub mod BegunLemmas
pub mod Causes
pub mod GrantLemmas
pub mod KeptLemmas
pub mod SpotLemmas
