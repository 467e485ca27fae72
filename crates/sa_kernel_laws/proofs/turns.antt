pub mod Shapes
pub mod WholeTurn
pub mod Kept
pub mod Fetches
pub mod Frames
pub mod Parts
pub mod Quiet
