pub mod Ready
pub mod View
pub mod Room
pub mod Opening
pub mod Waits
pub mod Run
