pub mod Letters
pub mod Reserved
