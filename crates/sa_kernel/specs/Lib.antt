pub mod View
pub mod Needs
pub mod Kept
