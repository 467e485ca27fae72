pub mod Outlooks
pub mod Runs
pub mod Appends
pub mod DueOrderLemmas
pub mod EvictionsToCome
pub mod Standings
pub mod PutLemmas
pub mod Outcomes
