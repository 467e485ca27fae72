pub mod Pairs
pub mod Contexts
pub mod Way
pub mod Calling
pub mod Stepping
pub mod Able
pub mod Keeping
