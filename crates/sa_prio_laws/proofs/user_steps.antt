-- A thread's instructions, what ends with a block, and runs of local instructions.
pub mod InsRanks
pub mod UserSteps
pub mod BlockSteps
pub mod LocalRuns
