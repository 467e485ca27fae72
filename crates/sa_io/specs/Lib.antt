pub mod Faults
pub mod Input
pub mod Supply
pub mod Store
pub mod Adapted
pub mod Pieces
pub mod Words
pub mod Streams
