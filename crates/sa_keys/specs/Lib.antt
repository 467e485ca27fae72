pub mod Key
pub mod Parts
pub mod Places
pub mod Laws
pub mod Outs
pub mod Outcome
