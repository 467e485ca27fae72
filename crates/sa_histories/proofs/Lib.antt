-- Legality: legality at each place of a history is legality along it, and the first event that breaks a rule is the first break.
-- Walk: what is kept along a history, of the items so far and what is read off them.
-- Traces: a flat trace and its history have the same items; what holds of each record of a legal trace.
-- Numbers: the events of a history have consecutive numbers.
-- Appended: records and events after others.
-- FirstBreaks: there is one first break, and none where every rule holds.
-- Sizes: what is read has an entry for each processor and space, and each record keeps it so.
pub mod Legality
pub mod Walk
pub mod Traces
pub mod Numbers
pub mod Appended
pub mod FirstBreaks
pub mod Sizes
