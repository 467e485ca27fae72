pub mod Generator
pub mod Order
pub mod Kind
pub mod Turns
pub mod Rest
pub mod Parts
pub mod Laws
