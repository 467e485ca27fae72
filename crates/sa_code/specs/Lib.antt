pub mod Routines
pub mod Micro
pub mod Changes
