pub mod Asks
pub mod Plain
