use Rattle.std.proofs.Common.{◌≡◌, ◌++◌, drop}
use Rattle.sa_assign.specs.Reaim.{records_of}
use Rattle.sa_check_shapes.specs.Due.{changes_of}
use Rattle.sa_check.proofs.opening.add_raised.Given as goal

abbrev pub invariant-loop-aimed : goal.invariant-loop-aimed
invariant-loop-aimed l =
    l.records.items ++ records_of l.number l.lines.items (changes_of (drop l.aimed-index l.due))
    ≡ l.fn.records.items ++ records_of l.number l.fn.lines.items (changes_of l.due)
