pub mod Credit
pub mod Words
pub mod Steps
pub mod Seen
