pub mod Lists
pub mod Shown
pub mod Steps
pub mod Start
pub mod LawLemmas
pub mod Numbers
