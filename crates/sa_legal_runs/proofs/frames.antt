pub mod Moments
pub mod Foreign
pub mod Lives
pub mod Sizes
pub mod Idle
pub mod IoNumbers
