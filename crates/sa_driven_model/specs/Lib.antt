pub mod Threads
pub mod Context
pub mod Reply
pub mod Step
pub mod Conditions
pub mod Stands
