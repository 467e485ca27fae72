pub mod Lists
pub mod Seeding
pub mod InOrder
