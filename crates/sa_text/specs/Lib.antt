pub mod LineText
pub mod Line
pub mod Pieces
pub mod Number
pub mod Laws
