pub mod Window
pub mod Look
pub mod Change
pub mod Stretches
pub mod Marks
pub mod Extent
pub mod Picture
pub mod Laws
