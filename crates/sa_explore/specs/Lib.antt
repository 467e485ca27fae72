pub mod Explored
pub mod Doing
pub mod Ahead
