-- The laws of stops, returns and upcalls.
pub mod Ceases
pub mod Told
pub mod Answers
