pub mod Does
pub mod Replies
pub mod RepliesKeep
