-- The proof that outlooks decide, over any user level that looks at no number, file by file. Two machines that are alike are followed
-- through one turn, part by part, whichever numbers the turn takes on either; then through turns in a row.
--
-- Alike: Two machines are alike, field by field: whatever comes, they do the same, but for the numbers of activations, I/Os and events.
-- Invariant: What each turn keeps of a machine, beside what stands.
-- ListsAlike: Two lists whose places are alike stay so where one place of both changes.
--
-- ios: I/Os under way, in the order in which they are due.
--   DueOrder: The order in which I/Os are due: which of them is first in it, and what it becomes where one begins or is over.
--   WholeLists: Sums, tests and lengths go over all I/Os, in whatever order these stand.
--
-- kernel: what enters the kernel keeps two kernels alike.
--   HeldContexts: Notices and I/Os stay the same without their numbers where what is held changes of an activation that none of them names.
--   Parts: The parts of entries keep kernels alike.
--   Closings: The closing of an event keeps kernels alike: the same spaces want, the same aims change, the same lines are raised.
--   Entries: Entries without an upcall keep kernels alike, and so does each part of one that may upcall.
--   Upcalls: Entries that may upcall keep kernels alike, and what the upcalls tell is the same without its numbers.
--
-- machine: one turn of two machines that are alike.
--   Calls: Calls of a user level keep machines alike, and a step answers the same.
--   Phases: The phases of a turn keep machines alike: entries, ticks, the end of a slice, and an upcall with all that it tells.
--   EventBegins: The beginning of an event keeps machines alike: time goes on, and pages are evicted.
--   OneTurn: A turn of one processor keeps machines alike, whichever numbers it takes on either.
--   Ends: Machines that are alike have the same end.
--   Regular: A turn keeps a machine regular.
--
-- outlooks: turns in a row, in the words of the laws.
--   AlikeOutlooks: Machines of runs are alike exactly where their outlooks are equal; and machines of one workload with the same key have one outlook.
--   Runs: Turns in a row keep the invariant, and the laws of outlooks hold along them.
pub mod ListsAlike
pub mod ios
pub mod Alike
pub mod Invariant
pub mod kernel
pub mod machine
pub mod outlooks
