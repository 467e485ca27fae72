pub mod Names
pub mod Plain
pub mod Runs
pub mod Show
pub mod Words
