pub mod Wants
pub mod Aims
pub mod Lines
pub mod Rest
