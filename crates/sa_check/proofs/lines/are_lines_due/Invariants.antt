use Rattle.std.proofs.Common.{◌≡◌, ◌++◌}
use Rattle.std.specs.Prelude.{filter_map}
use Rattle.sa_laws.specs.Closing.{lines_due}
use Rattle.sa_check_moment.specs.Seen.{seen}
use Rattle.sa_check.specs.Each.{line_for}
use Rattle.sa_check.proofs.EachLemmas.{from}
use Rattle.sa_check.proofs.lines.are_lines_due.Given as goal

abbrev pub invariant-loop-s : goal.invariant-loop-s
invariant-loop-s l =
    l.due.items ++ filter_map (line_for (seen l.moment).workload (seen l.moment).readings) (from l.s l.s-end)
    ≡ lines_due (seen l.moment).workload (seen l.moment).readings
