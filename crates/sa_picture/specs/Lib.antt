pub mod Status
pub mod Request
pub mod Paged
pub mod Answers
pub mod TopCall
