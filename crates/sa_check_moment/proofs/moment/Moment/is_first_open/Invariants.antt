use Rattle.std.proofs.Common.{ℕ, ◌<◌}
use Rattle.sa_laws.specs.Readings.{IsOpen}
use Rattle.sa_laws.specs.Locks.{list_round}
use Rattle.sa_check_moment.specs.Seen.{seen}
use Rattle.sa_check_moment.proofs.moment.Moment.is_first_open.Given as goal

-- no list that was looked at is open
abbrev pub invariant-loop-k : goal.invariant-loop-k
invariant-loop-k l = (k : ℕ) → k < l.k → IsOpen (seen l.self).readings l.s (list_round (seen l.self).workload l.p k) → ⊥
