-- Stops, blocks and returns as they are read, and the upcall that tells of them.
pub mod Untold
pub mod OwnThread
pub mod Handovers
pub mod Stops
pub mod Ups
pub mod Blocks
pub mod Unblocks
