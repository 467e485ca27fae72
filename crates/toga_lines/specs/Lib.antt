pub mod Content
pub mod Words
pub mod Names
