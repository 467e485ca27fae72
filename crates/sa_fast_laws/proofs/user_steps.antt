-- Steps of a life as whole events: a thread's instruction, and what ends with a block.
pub mod UserMoves
pub mod UserSteps
pub mod BlockMoves
pub mod BlockSteps
pub mod FaultMoves
pub mod FaultSteps
pub mod IoMoves
pub mod IoSteps
pub mod LocalMoves
pub mod StepCases
