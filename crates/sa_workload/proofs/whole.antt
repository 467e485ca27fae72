pub mod TextLemmas
pub mod OneBad
pub mod Whole
pub mod TableLaws
