pub mod Losses
pub mod Refusal
pub mod Drawn
