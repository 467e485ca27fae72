pub mod Steps
pub mod EarlyEnds
pub mod Blocks
pub mod Blocking
pub mod Asks
pub mod Turns
pub mod GoingOn
pub mod Commits
