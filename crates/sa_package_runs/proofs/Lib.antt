-- The theorem of user levels, with FastThreads and with thread priorities filled in: each run of the machine is a legal run; and
-- what follows of debugging sessions of FastThreads.
--
-- Leading: Runs by a schedule, and chains of turns and commits, are runs from the opening that made no move after an end.
-- Counted: How many events of a processor a history has, and how many its moves make.
-- Chains: What a chain of turns and commits leaves, in the words of the laws.
-- Whole: Whole runs in the words of the laws.
-- Shared: The history that host threads make.
-- Calls: What the calls of a core keep.
-- Commits: Where each space has FastThreads, local instructions that are committed at once are as many turns of the processor.
-- Playable: The items of a lawful history are records that the abstract machine can do, one after another.
-- Reaching: What a session reaches, over any user level that meets its laws.
-- Waiting: Where a run is stuck, each thread that was made and is not done waits in a queue.
-- Keeping: What turns keep, each command keeps.
-- Legal: Each session is legal.
-- Showing: What commands do over one thing, they do over another that shows the same.
-- Standing: Where a processor stands by the history is where it stands in the machine.
-- Only: Commands over a thing that goes one way come to one session, with one list of replies.
-- Partly: Commands that came so far, over a thing that goes one way: the thing and the number of those that were done tell one session alone.
-- OneWay: A history goes one way: it has one end, and each of its turns is one event more.
-- Told: A session of a machine with FastThreads is one of its history.
pub mod Leading
pub mod Counted
pub mod Chains
pub mod Whole
pub mod Shared
pub mod Calls
pub mod Commits
pub mod Playable
pub mod Reaching
pub mod Waiting
pub mod Keeping
pub mod Legal
pub mod Showing
pub mod Standing
pub mod Only
pub mod Partly
pub mod OneWay
pub mod Told
