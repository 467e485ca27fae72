use Rattle.std.proofs.Common.{◌≡◌, ◌-◌, length}
use Rattle.sa_waits.specs.Waits.{first_from, held}
use Rattle.sa_waits.proofs.queues.mutex_of.Given as goal

-- the answer is among the numbers that are left
abbrev pub invariant-loop-m : goal.invariant-loop-m
invariant-loop-m l =
    first_from (held l.sync l.t.0) 0 (length l.sync.mutexes) ≡ first_from (held l.sync l.t.0) l.m (length l.sync.mutexes - l.m)
