pub mod Readers
pub mod Commands
pub mod Whole
pub mod FirstBad
pub mod Registers
