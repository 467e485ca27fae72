-- Steps of a life as whole events, from FastThreads' moves and what the rules of priorities ask beside them.
pub mod Rules
pub mod Scenes
pub mod Turns
pub mod Asks
pub mod Moves
pub mod CodeSteps
pub mod RunSteps
pub mod Works
pub mod AskMoves
pub mod LookSteps
pub mod HintSteps
pub mod Unbound
pub mod Again
pub mod Settles
