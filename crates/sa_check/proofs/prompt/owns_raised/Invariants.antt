use Rattle.std.proofs.Common.{◌≡◌, ◌≢◌, ℕ, ◌<◌, Some, true, is_some}
use Rattle.sa_assign.specs.Reaim.{proc_no}
use Rattle.sa_laws.specs.Readings.{owner_of, line_of}
use Rattle.sa_check_moment.specs.Seen.{seen}
use Rattle.sa_check.proofs.prompt.owns_raised.Given as goal

abbrev pub invariant-loop-p : goal.invariant-loop-p
invariant-loop-p l =
    (k : ℕ) → k < l.p → owner_of (seen l.moment).readings (proc_no k) ≡ Some l.s → is_some (line_of (seen l.moment).readings (proc_no k)) ≢ true
