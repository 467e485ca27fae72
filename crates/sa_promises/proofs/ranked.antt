-- Fading: records that make no thread of a space ready or running.
-- Places: on each processor at most one thread runs, one of the space that owns it.
-- Moving: what is known along the records of an event, and what they leave of a space that they do not concern.
-- Fine: of a space at the end of an event: a life of it is in, or something is untold to it, or no pair of it exists.
-- Forms, Events: the form of a step where ready threads are listed by their ranks; the records of an event, and its parts.
-- Serve: each event keeps what is fine. Runs: so no ready thread outranks a running one in a legal run.
pub mod Fading
pub mod Places
pub mod Moving
pub mod Fine
pub mod Forms
pub mod Events
pub mod Serve
pub mod Runs
