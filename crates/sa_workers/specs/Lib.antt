pub mod Quota
pub mod Worker
pub mod Run
