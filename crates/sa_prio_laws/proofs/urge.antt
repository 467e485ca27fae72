-- What a context with the mark does where a ready thread outranks a running one.
pub mod Interrupts
pub mod Ways
pub mod GivesWay
pub mod Urge
