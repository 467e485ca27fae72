pub mod Slot
pub mod Lists
pub mod Rings
pub mod Wiring
