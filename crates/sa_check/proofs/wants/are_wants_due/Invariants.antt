use Rattle.std.proofs.Common.{◌≡◌, ◌++◌}
use Rattle.std.specs.Prelude.{filter_map}
use Rattle.sa_laws.specs.Closing.{wants_due}
use Rattle.sa_check_moment.specs.Seen.{seen}
use Rattle.sa_check.specs.Each.{want_for}
use Rattle.sa_check.proofs.EachLemmas.{from}
use Rattle.sa_check.proofs.wants.are_wants_due.Given as goal

abbrev pub invariant-loop-s : goal.invariant-loop-s
invariant-loop-s l =
    l.due.items ++ filter_map (want_for (seen l.moment).readings) (from l.s l.s-end) ≡ wants_due (seen l.moment).workload (seen l.moment).readings
