pub mod Loads
pub mod ProbeLemmas
