pub mod OperationLemmas
pub mod Operands
pub mod PartsLemmas
pub mod PlaceLemmas
