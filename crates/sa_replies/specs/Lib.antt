pub mod Words
pub mod Fields
pub mod Reply
pub mod Texts
pub mod Telling
