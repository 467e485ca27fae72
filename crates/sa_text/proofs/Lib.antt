pub mod Spelling
pub mod NumberOf
pub mod LineLemmas
pub mod PieceLemmas
pub mod Lacking
pub mod DigitLemmas
