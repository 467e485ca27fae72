-- The proof that the package with thread priorities keeps its laws, over FastThreads' moves.
--
-- relation: The package's value and contexts beside what is read of the history: the one list by ranks, the pairs, and the mark.
--   Orders: The order by rank: what comes into it, what is taken out of it, and which thread is first.
--   Ready: The ready threads of the history are those of the package's list, of which the first has the greatest rank.
--   Ranked: The ready list stays in order where the threads keep their programs, and nothing comes into the list or leaves it.
--   Pairs: The pairs that the package sees are those that are read.
--   Listed: The ready list as a thread comes into it or is taken out of it, and which thread is next.
--   Placed: A thread keeps its program wherever threads are placed.
--   Popped: The first of the ready list is taken out of it, and is the thread that is next in the history.
--   Fresh: A context with the mark has just come to its instruction or look.
--   OneList: The one list beside the history: it has a thread exactly where some thread is ready in the history's.
-- frames: The laws that hold where nothing of the space happens, at the opening, at the kernel's events and at the end.
--   Frames: The frame laws: what concerns no thread or life of the space does not matter; and who runs where.
--   KernelEvents: The laws of the kernel's events and of the opening.
--   Openings: The law of the opening.
--   Ends: The laws of the end, and that threads run where lives do.
-- notices: The laws of stops, returns and upcalls.
--   Ceases: The laws of stops, of returns and of an upcall's beginning, and who is in.
--   Told: The laws of notices: the context of a life that stopped or came back is handed over.
--   Answers: The law of an upcall's end: the context settles, and has the mark where a pair exists.
-- steps: Steps of a life as whole events, from FastThreads' moves and what the rules of priorities ask beside them.
--   Rules: The rules of an event of a running life, from what is so of its first record.
--   Scenes: What is known before a step of a running life of the package with priorities.
--   Turns: A step that asks for nothing: from what it does to FastThreads' part, and its rules, to the law of the composition.
--   Asks: A step that asks for a hint, for the return of activations, or for a line: from what it does to FastThreads' part, and its rules, to the
--       law of the composition.
--   Moves: A move of FastThreads under the rules of the package with priorities: what its rules ask beside the move, and that the step is legal then.
--   CodeSteps: Steps in the code that leave the ready list as it is: a free, and the back of a copy.
--   RunSteps: A pop: of the ranked list the first thread runs, which is the one of the greatest rank.
--   Works: Steps of a context in work, and of one that looks for a thread, that leave the ready list as it is.
--   AskMoves: A context that asks the kernel for a hint, or for the return of activations: from its move in FastThreads' part, and what the rules of
--       priorities ask beside it, to the law of the composition.
--   LookSteps: FastThreads' looks at the one list are legal under the rules of priorities: a take for a pop, an idle record, or the hint that the
--       processor is idle; and the hint for more.
--   HintSteps: The hint for more is legal under the rules of priorities, and so is the return of activations.
--   Unbound: A life whose steps are free: it is out; or it owes nothing, and no pair of its space exists.
--   Again: A context settles again without an event: a hint that is no longer owed, activations that are too few by now, and a pair that is there no
--       longer.
--   Settles: A step of a context that settles first, where nothing is owed any more, or no pair is there any more: it is legal where one of the
--       context as it settles is.
-- urge: What a context with the mark does where a ready thread outranks a running one.
--   Interrupts: Urge: another processor of the space is interrupted, whose thread is the lowest-ranked of those in pairs.
--   Ways: A running thread gives way: what holds after that.
--   GivesWay: Urge: a thread that some ready thread outranks gives way.
--   Urge: A step of a context with the mark: its own thread gives way; another processor is interrupted; or no pair is left, and it goes on as
--       FastThreads does.
-- user_steps: A thread's instructions, what ends with a block, and runs of local instructions.
--   InsRanks: An instruction leaves the ready list in order: threads keep their programs and ranks, and a fork gives the new thread the rank of its
--       program.
--   UserSteps: The instructions of a thread after which it goes on, or waits or is done, are legal.
--   BlockSteps: Steps that end with a block are legal: a fault in the code, the touch of an absent page, and an instruction for an I/O.
--   LocalRuns: A run of local instructions: each is a legal event of its own, and after the last one all fits.
-- AllSteps: A step of the package with thread priorities is legal, whatever state its context is in.
-- PrioLaws: The package with thread priorities meets all that a user level owes to the history, with its own rules.
pub mod relation
pub mod frames
pub mod notices
pub mod steps
pub mod urge
pub mod user_steps
pub mod AllSteps
pub mod PrioLaws
