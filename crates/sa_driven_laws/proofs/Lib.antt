-- The proof that the driven user level keeps its laws, from the relation up to the level that the theorem takes.
--
--   Changed: What holds goes on to hold where one life changes, and each other one stays as it was, or is gone; so do lives at rest.
--   Runners: A thread runs on a processor exactly where the context of its space's life there carries it.
--   Handed: Which threads can be made ready: the value's set is what is read, of threads that are due, or carried and heard of.
--   Inside: Whether a life is in: at the end of an event that settles it, of one after which its thread goes on, and of one that
--       says that it is idle, the test of any user level says what the context says.
--   Turned: A step of a running life changes what its context has, and leaves all others alone; the end of its own event marks its
--       life.
--   Frames: What concerns other spaces, aims, lines, pages and I/Os does not matter.
--   Untold: A life is stopped, or blocked, or comes back: one notice more waits, and all others stay as they are.
--   Ceases: A running life is stopped, or blocks; a blocked one comes back.
--   Ups: An upcall begins: a fresh life, with a fresh context.
--   Told: A fresh activation is told: of a processor or a block, which hands nothing over; of a stop or a return, with which it
--       takes over the other context, as its life inherits what the other one had.
--   EndLaws: The end: what the value counts is what the history reads of its threads, and for whose sake its space must hear.
--   NoticeLaws: The laws of stops, unblocks and upcalls, and of what a life owes.
--   Scenes: Which thread runs on the processor of a running life; and what is known before its step.
--   Answers: The law of an upcall's end: the context settles, and its life is in where that shows so.
--   Openings: The laws of the opening, and of the kernel's events.
--   Moves: Moves of a running life: a step that asks for nothing, and one that asks the kernel for a hint, for the return of
--       activations or for a line. Each is legal where its records are, and where its life is in as its context says.
--   Replies: What each reply does that is a step of one record.
--   ReplySteps: Each reply that is a step of one record is legal.
--   AskSteps: The replies that ask the kernel for something: a hint, the return of activations, a line.
--   InsFits: An instruction of a context's thread: the value and the history fit again, and who is roused joins both hands.
--   InsSteps: An instruction after which its thread goes on, waits or is done, is legal.
--   BlockSteps: A step that blocks for a page, before which it says nothing, is legal: so a fault at the ready lists.
--   InsBlocks: An instruction that blocks is legal: the touch of an absent page, and an I/O.
--   Steps: The law of steps: whatever reply there is, done or not.
--   LocalRuns: The law of local instructions: each is a legal event of its own, and after the last one all fits.
--   DrivenLaws: The driven user level meets all that a user level owes to the history, with the rules of any user level.
pub mod Changed
pub mod Runners
pub mod Handed
pub mod Inside
pub mod Turned
pub mod Frames
pub mod Untold
pub mod Ceases
pub mod Ups
pub mod Told
pub mod EndLaws
pub mod NoticeLaws
pub mod Scenes
pub mod Answers
pub mod Openings
pub mod Moves
pub mod Replies
pub mod ReplySteps
pub mod AskSteps
pub mod InsFits
pub mod InsSteps
pub mod BlockSteps
pub mod InsBlocks
pub mod Steps
pub mod LocalRuns
pub mod DrivenLaws
