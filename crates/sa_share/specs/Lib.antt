pub mod Fair
pub mod Rounds
pub mod Serving
pub mod Share
pub mod Turn
