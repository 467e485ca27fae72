pub mod Packages
pub mod Codes
pub mod Values
