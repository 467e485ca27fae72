pub mod Holds
pub mod Loops
pub mod Operations
pub mod Parts
pub mod Places
pub mod Ready
