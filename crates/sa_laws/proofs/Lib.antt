pub mod Closings
pub mod Lengths
pub mod Notes
pub mod Numbers
pub mod Records
pub mod Searches
pub mod Spaces
