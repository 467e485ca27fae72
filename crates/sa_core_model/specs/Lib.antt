pub mod Machine
pub mod Turn
pub mod End
pub mod Run
pub mod Standing
pub mod Steps
