pub mod Sizes
pub mod Placed
pub mod Running
pub mod Closings
pub mod Seen
pub mod Owed
