pub mod Places
pub mod Alike
pub mod Adding
pub mod Ends
