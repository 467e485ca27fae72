mod Fills
mod Changes
mod Shows
mod Marked
mod Lanes
pub mod Ranges
pub mod Walks
