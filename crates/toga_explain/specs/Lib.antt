pub mod Tables
pub mod Topic
pub mod Explain
pub mod Laws
