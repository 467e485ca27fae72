use Rattle.std.proofs.Common.{◌≡◌, ℕ, ◌<◌, false}
use Rattle.sa_assign.specs.Aims.{space_no}
use Rattle.sa_laws.specs.Closing.{must_want}
use Rattle.sa_check_moment.specs.Seen.{seen}
use Rattle.sa_check.proofs.prompt.wants_nothing.Given as goal

abbrev pub invariant-loop-s : goal.invariant-loop-s
invariant-loop-s l = (k : ℕ) → k < l.s → must_want (seen l.moment).readings (space_no k) ≡ false
