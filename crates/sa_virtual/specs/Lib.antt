pub mod Virtual
pub mod Turn
pub mod Legal
pub mod Examples
pub mod Losing
pub mod Holding
pub mod Turning
pub mod Runs
