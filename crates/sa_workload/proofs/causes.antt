pub mod LineAt
pub mod Causes
