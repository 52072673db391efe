pub mod Asked
pub mod Goes
pub mod Listed
pub mod Machine
