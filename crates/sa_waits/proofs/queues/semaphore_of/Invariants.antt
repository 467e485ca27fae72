use Rattle.std.proofs.Common.{◌≡◌, ◌-◌, length}
use Rattle.sa_waits.specs.Waits.{first_from, counted}
use Rattle.sa_waits.proofs.queues.semaphore_of.Given as goal

-- the answer is among the numbers that are left
abbrev pub invariant-loop-k : goal.invariant-loop-k
invariant-loop-k l =
    first_from (counted l.sync l.t.0) 0 (length l.sync.semaphores) ≡ first_from (counted l.sync l.t.0) l.k (length l.sync.semaphores - l.k)
