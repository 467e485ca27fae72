pub mod Runs
pub mod Calls
pub mod Whole
pub mod Threads
pub mod Commits
pub mod Sessions
pub mod Told
pub mod Waiting
