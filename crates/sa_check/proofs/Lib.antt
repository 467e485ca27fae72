-- VerdictLemmas: A verdict that is true of a trace is the only one.
-- EventLemmas: The first event of some items, and the items after it.
-- FindLemmas: The first rule that was not found to hold is the first that does not hold.
-- PlaceLemmas: The places of an event, and the moments there.
-- RecordLemmas: The records of an event, read one by one.
-- FoundLemmas: What was found before an event, at its records and after it tells which rules hold.
-- QuietLemmas: A quiet event leaves owners, shares, wants and what is told in time as they were.
-- QuietLines: Where no line is due before a quiet event, none is due at it and after it; and it has no line and no aim.
-- UrgedLemmas: What is known of pairs at the end of an event, where they are asked for before its last record.
-- JudgeLemmas: One event is judged.
-- WalkLemmas: A trace is judged event by event.
-- ReadLemmas: A trace is judged while it is read.
-- ChangeLemmas: Changes of aims that are made one after another.
-- EachLemmas: What is due of each space in turn.
pub mod VerdictLemmas
pub mod EventLemmas
pub mod FindLemmas
pub mod PlaceLemmas
pub mod RecordLemmas
pub mod FoundLemmas
pub mod QuietLemmas
pub mod QuietLines
pub mod UrgedLemmas
pub mod JudgeLemmas
pub mod WalkLemmas
pub mod ReadLemmas
pub mod ChangeLemmas
pub mod EachLemmas
