-- The proof that FastThreads keeps its laws, from the relation up to the level that the theorem takes.
--
-- relation: FastThreads' value and contexts beside what is read of the history: what a step of one life leaves, and what an event's end does.
--   Stages: Where activations are, at two moments at which the same notices wait and the same lives run.
--   Hands: How often a thread is in a hand, which of these count, and that what a context has is the thread that it carries and those beside it.
--   ReadyOrders: The ready lists in both orders: the package has the newest thread first, and the history the oldest.
--   OneLife: A step of one life changes what one context has, and leaves all others alone.
--   Places: A thread goes to another place, in the history and in the package; what the load is then; and one life that changes.
--   InCode: What a context in the code of the package has, place by place.
--   ThreadsBeside: A thread that a context has beside the one that it carries.
--   Still: A step of one life by which no thread goes to another place.
--   Moved: A step of one life by which one thread of its hand goes to another place.
--   Notices: Lists of notices without one that was told.
--   InsideMarks: At the end of an own event a life is in exactly where its context is inside the package.
--   EventEnds: The end of an own event: from what a life has after its records to what fits between events.
--   Runners: A thread runs on a processor exactly where the context of its space's life there carries it.
--   SettledMarks: After an event that settles, all marks of the life are those of its context: one lemma for every such event.
--   Restated: A context settles (after its upcall, after an entry, or before its step): it has what it had.
--   InPlace: A step of one life by which only what its thread has changes, not where it is.
--   NoteLists: Lists of notices: with one more, with one that a test finds, and what is summed over them.
-- lists: The package's operations on its ready lists, beside the history.
--   Pushes: A push makes a thread ready that the context has beside its own.
--   Pops: A pop takes the newest or the oldest thread out of a list, and it runs.
--   LockedLists: Which lists are locked, and which are open: the history and the package say the same.
--   OpenLists: The list that the package seeks from its own one on, round, is the first open one of the history.
--   Takes: A look at the lists takes the lock of one, for a pop; and a context with threads to make ready takes that of its own, for a push.
--   Frees: At the end of a routine the lock of its list is freed.
--   Continues: The first section to continue is continued in its copy.
--   Backs: A copy gives control back: its thread comes last in the work list.
-- instructions: A thread's instruction in the package's table and in the abstract machine's.
--   Effects: One instruction: the package's table and the abstract machine's do the same.
--   Instructions: An instruction after which its thread goes on, or waits or is done.
--   Gains: What an instruction puts into the empty work list is what is in it then.
--   Ranks: An instruction gives no thread a rank where threads have none.
-- notices: Stops, blocks and returns as they are read, and the upcall that tells of them.
--   Untold: A notice of one life more waits to be told: the life ceases to run, or comes back, and its thread goes to another place.
--   OwnThread: The thread that a life carries, as its stop, its block or its return is read: it goes to another place in the history; and where a
--       stop or a return is read it comes into the life's hand.
--   Handovers: A handler is told of a stop or an unblock: it takes over the other context, as its life inherits what the other one had.
--   Stops: A running life is stopped: the package does nothing, and what it has still fits.
--   Ups: An upcall begins: a fresh life, with a fresh context.
--   Blocks: A running life blocks, after what its step did: the package puts its thread to the place Blocked.
--   Unblocks: A blocked life comes back: the package does nothing, and what it has still fits.
-- lives: The laws of user levels that speak of threads and lives alone, for each package whose contexts have FastThreads' in them.
--   Rests: Lives stay at rest where they, their contexts and their stages stay; and one whose stop or return is read stays so.
--   SameSpace: What concerns other spaces, aims, lines, pages and I/Os does not matter to what holds, nor to lives at rest.
--   Running: The threads of a space run where its lives do.
--   Ceases: Lives fit as before where a stop or a return of one is read.
--   PlainNotices: Notices that hand nothing over, of a processor more and of a block, leave lives as they are.
--   Upcalls: A fresh activation begins, is told of its notices, and takes over the contexts of those that stopped or came back.
--   LifeEnds: The end of an own event of a life: what holds stays, and all lives are at rest.
--   Answers: An upcall ends: its context settles, and its life is in where that shows so.
--   KernelEvents: Events of the kernel alone are no steps, and have no operation on lists.
--   Ends: The end: what a package counts is what the history reads of its threads, and for whose sake its space must hear.
--   Waiting: A thread that is left waits in a queue, where no life is in and each context runs, or its stop or its return is untold.
--   Openings: At the opening a space has one thread, which is ready, and no life.
-- steps: Steps of a life as whole events: in the package's code, between routines, at a look and at a hint. A move cites no rule of a user level.
--   Events: FastThreads' relation as the laws of user levels take it, and what a closing leaves of it.
--   Scenes: What is known before a step of a running life: sizes, who runs on its processor, and who runs there after it.
--   Moves: A move: what a step that asks for nothing does to the machine and to what is read, and what holds after it.
--   Turns: A move of FastThreads that keeps its rules is a legal step.
--   CodeMoves: The moves of a context in the code of the package: ready, run, free and back, each a whole event.
--   CodeSteps: FastThreads' steps in its code are legal: ready, run, free and back.
--   WorkMoves: The moves of a settled context with something left: it continues a section, takes its list for a push, or spins.
--   WorkSteps: FastThreads' steps with something left are legal: it continues a section, takes its list for a push, or spins.
--   Asks: A step that asks the kernel for a hint or for the return of activations: the kernel's records, and the context goes on.
--   Hints: What the table of steps asks of hints and of looks that find nothing.
--   LookMoves: The moves of a look at the ready lists: a take for a pop, an idle record, or the hint that the processor is idle; and the hint for
--       more.
--   LookSteps: FastThreads' looks at the ready lists are legal: a take for a pop, an idle record, or the hint that the processor is idle; and the
--       hint for more.
--   GivingMoves: Activations are given back; and a context whose hint or return is no longer owed goes on as it settles again.
--   GivingSteps: FastThreads gives activations back; and where its hint or return is no longer owed it goes on as it settles again.
-- user_steps: Steps of a life as whole events: a thread's instruction, and what ends with a block.
--   UserMoves: The moves of a thread's instruction after which its thread goes on, or waits or is done: each a whole event.
--   UserSteps: FastThreads' instructions after which their thread goes on, or waits or is done, are legal.
--   BlockMoves: The moves that end with a block: what is known after one, and those that say nothing before it, a fault in the code and the touch of
--       an absent page.
--   BlockSteps: FastThreads' steps that end with a block: all fits after one, and a fault is legal.
--   FaultMoves: The faults of a context: in the code of the package, and at the touch of an absent page.
--   FaultSteps: FastThreads' faults are legal: in its code, and at the touch of an absent page.
--   IoMoves: The move of an instruction for an I/O: the instruction and its block in one event.
--   IoSteps: FastThreads' instruction for an I/O, with its block, is legal.
--   LocalMoves: A local instruction of a life as a whole event: what its user level says and does, and what is known after that event, by whichever
--       test of who is in.
--   StepCases: The kinds of steps that a context makes, whichever rules its user level keeps: what is shown of each kind is shown of every step.
-- AllSteps: A step of FastThreads is legal, whatever state its context is in.
-- FrameLaws: FastThreads' relation as threads and lives that fit, with the ready lists; and the frame laws: what concerns no thread or life of the
--     space does not matter.
-- StepLaws: The laws of the kernel's events, of the opening and of steps.
-- StopLaws: The laws of stops and unblocks, of an upcall's beginning, and of what a life owes.
-- HandedNotices: The laws of the notices that are told in an upcall, and of its end.
-- Openings: The law of the opening, and that who is in is inside the package.
-- LocalRuns: A run of FastThreads' local instructions: each is a legal event of its own, and after the last one all fits.
-- FastLaws: FastThreads meets all that a user level owes to the history, with its own rules.
pub mod relation
pub mod lists
pub mod instructions
pub mod notices
pub mod lives
pub mod steps
pub mod user_steps
pub mod AllSteps
pub mod FrameLaws
pub mod StepLaws
pub mod StopLaws
pub mod HandedNotices
pub mod Openings
pub mod LocalRuns
pub mod FastLaws
