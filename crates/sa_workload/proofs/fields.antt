pub mod FieldLemmas
pub mod InstrLemmas
