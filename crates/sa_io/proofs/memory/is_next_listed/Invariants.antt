use Rattle.std.proofs.Common.{◌≢◌, ℕ, ◌+◌, ◌<◌}
use Rattle.std.specs.Prelude.{slice_index_or}
use Rattle.sa_io.proofs.memory.is_next_listed.Given as goal

-- the call is none of those that were looked at
abbrev pub invariant-loop-number : goal.invariant-loop-number
invariant-loop-number l = (k : ℕ) → k < l.number-index → slice_index_or l.numbers k (l.calls + 1) ≢ l.calls + 1
