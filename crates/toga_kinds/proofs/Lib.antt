-- Events: The turns of a history, event by event.
-- Sums: The kinds add up to the turns, and so do the processors.
pub mod Events
pub mod Sums
