pub mod Board
pub mod Turn
pub mod Mirror
pub mod Run
pub mod Needs
pub mod End
pub mod Runs
