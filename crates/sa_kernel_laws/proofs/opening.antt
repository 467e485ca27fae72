pub mod Opened
pub mod Rules
