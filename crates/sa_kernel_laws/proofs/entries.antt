pub mod Walks
pub mod Stops
pub mod Completions
pub mod Upcalls
pub mod OwnPart
pub mod EachEntry
