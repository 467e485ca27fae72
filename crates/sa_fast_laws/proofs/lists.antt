-- The package's operations on its ready lists, beside the history.
pub mod Pushes
pub mod Pops
pub mod LockedLists
pub mod OpenLists
pub mod Takes
pub mod Frees
pub mod Continues
pub mod Backs
