use Rattle.std.specs.List.{AllAdjacentBelow}
use Rattle.sa_spaces.specs.Workload.{IsBefore}
use Rattle.sa_spaces.proofs.workload.Evict.rise.Given as goal

-- the evictions below i rise
abbrev pub invariant-loop-i : goal.invariant-loop-i
invariant-loop-i l = AllAdjacentBelow IsBefore l.evictions l.i
