mod Counting
pub mod Coding
pub mod KindLemmas
pub mod PartsLemmas
pub mod Steps
pub mod Readings
pub mod Records
pub mod Lines
pub mod LineTexts
pub mod Whole
pub mod FirstBad
pub mod ReadOn
pub mod ItemLines
pub mod FirstLine
mod LossLines
pub mod Digits
pub mod LineBytes
