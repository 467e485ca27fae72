pub mod Sums
pub mod Rounds
pub mod Totals
pub mod Seated
pub mod Acts
