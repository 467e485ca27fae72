pub mod Lines
pub mod Filling
pub mod Reading
