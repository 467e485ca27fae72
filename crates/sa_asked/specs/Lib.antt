pub mod Replies
pub mod Questions
