pub mod Tables
pub mod Listed
pub mod Sentence
pub mod Shown
pub mod Text
