pub mod Edited
pub mod Then
