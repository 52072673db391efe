pub mod Altered
pub mod Holding
pub mod Looking
pub mod Renaming
pub mod Rooted
