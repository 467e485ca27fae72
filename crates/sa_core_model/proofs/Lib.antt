pub mod Running
pub mod Effects
pub mod Phases
pub mod Calls
pub mod Turns
pub mod Runs
pub mod Commits
