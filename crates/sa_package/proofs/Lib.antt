pub mod Rows
pub mod Carried
pub mod LocalRuns
pub mod Coded
