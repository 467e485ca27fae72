pub mod HeldContexts
pub mod Parts
pub mod Closings
pub mod Entries
pub mod Upcalls
pub mod Quiet
