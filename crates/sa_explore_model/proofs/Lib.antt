-- The proof that a breadth-first search answers for every run.
--
-- Orders: The order of schedules: it is kept where both have the same turn more, and schedules do not come before those they begin.
-- Ways: The ways to states: each is the way to the state before it and one turn more, and they rise.
-- Steps: What one step of a search adds keeps what a search has done.
-- Seen: Each run comes to a state that is kept, by a way that is not behind it, or it comes after all that was done.
-- Answered: What a search has done when it stops is what it answers for.
-- Groups: The states with an end, counted one after another, are grouped by their bytes.
-- Results: The groups of a search that stopped are the results of the runs that end.
-- Endless: The states from which no turns lead to an end.
-- Places, Laws: Where a turn stands in the order of turns; what the proof needs of the machines that are searched.
pub mod Orders
pub mod Ways
pub mod Places
pub mod Laws
pub mod Seen
pub mod Steps
pub mod Answered
pub mod Endless
pub mod Groups
pub mod Results
