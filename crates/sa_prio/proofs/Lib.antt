pub mod Going
pub mod LowLines
pub mod Urging
