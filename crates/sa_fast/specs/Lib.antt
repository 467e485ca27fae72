pub mod Hints
pub mod Threads
pub mod Work
pub mod Instruction
pub mod Rest
