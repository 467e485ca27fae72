pub mod Sync
pub mod Calls
pub mod Parts
pub mod Laws
