-- The proofs that the kernel keeps its laws, file by file.
--
-- overview: what the kernel knows of a history, and how records change it.
--   Records: What a record changes of what the kernel knows.
--   Untold: What is untold, and what a run of told records leaves of it.
--   Once: No notice waits twice: each hands over a context that is held once, or says of one that it blocked.
--   Idle: Which lives were idle when they were stopped, and which notices wait.
--   Tidy: What waits and what is under way is there once: what each part of an entry leaves of that.
--
-- entries: the records that each entry adds, which are the own part of its event.
--   Walks: The parts of entries: which records they add, what these change of what is read, and that each is lawful.
--   Stops: Interrupts and blocks: the context that ran is put aside, and the processor goes on.
--   Completions: Completions, hints, and what is given back.
--   Upcalls: The laws of each record, along the records of an upcall.
--   OwnPart: The own part of an event: what comes before its closing.
--   EachEntry: Each entry has an own part.
--
-- closings: what is due at the closing of an event, and what a closing leaves.
--   Wants: The wants of a closing are those that are due.
--   Aims: The aims of a closing are those that are due.
--   Lines: The lines of a closing are those that are due.
--   Rest: Behind a closing no line is due, and where nothing is due a closing adds nothing.
--
-- turns: a turn, from the records of the user level to the closing.
--   Shapes: The parts of an event's list of records.
--   WholeTurn: A whole turn: the own part of its event, and after it the closing.
--   Kept: A turn keeps what is kept, and the laws of its end hold.
--   Fetches: The fetch of a notice keeps what is kept.
--   Frames: A turn does the same whatever was in the trace before, and adds its items after that.
--   Parts: An event has its entry's records, and after them the closing.
--   Quiet: An event of a user level's records alone.
--
-- rules: the laws at the event of a turn, rule by rule.
--   Upcalls: The laws of upcalls at the event of a turn: what they tell, and that they come in time and where the processor is owned.
--   Causes: Wants, lines and aims have their causes at the event of a turn.
--   Shares: Aims cover shares at the event of a turn.
--
-- opening: the opening, and the laws at it.
--   Opened: The records of the opening, and that what is kept begins with it.
--   Rules: The laws at the opening.
--
-- histories: runs, and histories from call to call.
--   Runs: The kernel's laws hold along its runs.
--   Example: A short run can be made.
--   Calls: By what the contracts of the kernel's calls say, a turn comes next, and what is kept is kept.
--   Histories: Histories from call to call: they open, go on by an entry, by a slice's end or without the kernel, and a fetch keeps them.
--
-- Value: The laws of the kernel as a value.
pub mod overview
pub mod entries
pub mod closings
pub mod turns
pub mod rules
pub mod opening
pub mod histories
pub mod Value
