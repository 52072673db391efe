pub mod Header
pub mod Held
pub mod Pages
pub mod Within
