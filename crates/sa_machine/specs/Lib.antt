pub mod View
pub mod Room
pub mod Needs
pub mod Users
