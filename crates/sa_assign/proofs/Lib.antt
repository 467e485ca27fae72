pub mod AimLemmas
pub mod ChoiceLemmas
pub mod LineLemmas
pub mod ReaimLemmas
pub mod CountLemmas
