pub mod Copies
pub mod Runs
