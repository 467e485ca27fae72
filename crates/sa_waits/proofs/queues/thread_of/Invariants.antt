use Rattle.std.proofs.Common.{◌≡◌, ◌-◌}
use Rattle.sa_base.specs.declared.limits.TheConstants.{MAX_THREADS}
use Rattle.sa_waits.specs.Waits.{first_from, joined}
use Rattle.sa_waits.proofs.queues.thread_of.Given as goal

-- the answer is among the numbers that are left
abbrev pub invariant-loop-j : goal.invariant-loop-j
invariant-loop-j l =
    first_from (joined l.sync l.t.0) 0 MAX_THREADS ≡ first_from (joined l.sync l.t.0) l.j (MAX_THREADS - l.j)
