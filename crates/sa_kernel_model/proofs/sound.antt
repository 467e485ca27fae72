pub mod Formed
pub mod Claims
pub mod Held
pub mod Prompt
pub mod Sound
