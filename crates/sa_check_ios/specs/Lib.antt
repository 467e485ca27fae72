pub mod Kept
pub mod PendingView
pub mod Ready
