pub mod Runs
pub mod Example
pub mod Calls
pub mod Histories
