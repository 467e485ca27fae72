pub mod Playing
pub mod Ordering
pub mod Keeping
pub mod Marking
pub mod Running
