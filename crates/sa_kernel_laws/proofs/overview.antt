pub mod Records
pub mod Untold
pub mod Once
pub mod Idle
pub mod Tidy
