pub mod Store
pub mod Answers
pub mod Marks
pub mod Sweep
pub mod Groups
