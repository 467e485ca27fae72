-- FastThreads' value and contexts beside what is read of the history: what a step of one life leaves, and what an event's end does.
pub mod Stages
pub mod Hands
pub mod ReadyOrders
pub mod OneLife
pub mod Places
pub mod InCode
pub mod ThreadsBeside
pub mod Still
pub mod Moved
pub mod Notices
pub mod InsideMarks
pub mod EventEnds
pub mod Runners
pub mod SettledMarks
pub mod Restated
pub mod InPlace
pub mod NoteLists
