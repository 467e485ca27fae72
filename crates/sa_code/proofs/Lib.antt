pub mod Steps
pub mod Answers
pub mod Kept
pub mod Cases
pub mod Asked
