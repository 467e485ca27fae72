-- Steps of a life as whole events: in the package's code, between routines, at a look and at a hint. A move cites no rule of a user level.
pub mod Events
pub mod Scenes
pub mod Moves
pub mod Turns
pub mod CodeMoves
pub mod CodeSteps
pub mod WorkMoves
pub mod WorkSteps
pub mod Asks
pub mod Hints
pub mod LookMoves
pub mod LookSteps
pub mod GivingMoves
pub mod GivingSteps
