pub mod Chain
pub mod Seat
pub mod Lock
pub mod Enter
pub mod Closed
pub mod Follow
