pub mod Written
pub mod PieceLemmas
pub mod InputLemmas
pub mod SupplyLemmas
