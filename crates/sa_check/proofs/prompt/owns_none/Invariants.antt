use Rattle.std.proofs.Common.{◌≢◌, ℕ, ◌<◌, Some}
use Rattle.sa_assign.specs.Reaim.{proc_no}
use Rattle.sa_laws.specs.Readings.{owner_of}
use Rattle.sa_check_moment.specs.Seen.{seen}
use Rattle.sa_check.proofs.prompt.owns_none.Given as goal

abbrev pub invariant-loop-p : goal.invariant-loop-p
invariant-loop-p l = (k : ℕ) → k < l.p → owner_of (seen l.moment).readings (proc_no k) ≢ Some l.s
