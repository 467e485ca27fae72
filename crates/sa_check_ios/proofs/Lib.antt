pub mod Soonest
pub mod Fetching
pub mod ReadyLemmas
pub mod Found
