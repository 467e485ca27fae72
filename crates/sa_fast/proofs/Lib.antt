pub mod WorkLemmas
pub mod WakeLemmas
mod Counts
pub mod Moves
pub mod WorkSteps
pub mod SyncSteps
pub mod RunSteps
pub mod PlaceSteps
mod Unmade
