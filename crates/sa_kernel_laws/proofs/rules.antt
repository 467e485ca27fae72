pub mod Upcalls
pub mod Causes
pub mod Shares
