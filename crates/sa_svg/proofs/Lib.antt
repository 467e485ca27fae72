pub mod Appends
pub mod Plain
