pub mod Runs
pub mod Searching
