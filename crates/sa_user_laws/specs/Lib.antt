pub mod Moments
pub mod Scene
pub mod Steps
pub mod Laws
pub mod Level
