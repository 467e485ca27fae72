pub mod Setting
pub mod Walk
pub mod Calls
pub mod Keeps
pub mod OneThread
pub mod OneThreadKeeps
