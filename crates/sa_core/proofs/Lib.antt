pub mod CoreLemmas
mod AskLemmas
mod DueLemmas
