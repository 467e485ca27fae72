-- Schedules: The schedules that a search gives can be run.
-- Reaching: Turns that lead to a machine reach it within the most events.
-- Holders: In the states of the abstract machine nobody waits for a mutex that nobody holds.
-- EachWaits: A thread that is in some queue waits for something, and each thread that waits has a line.
-- Left: Where turns lead to a stuck end, those that wait are all the threads that are left.
pub mod Schedules
pub mod Reaching
pub mod Holders
pub mod EachWaits
pub mod Left
