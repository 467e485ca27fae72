-- A thread's instruction in the package's table and in the abstract machine's.
pub mod Effects
pub mod Instructions
pub mod Gains
pub mod Ranks
