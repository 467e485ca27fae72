use Rattle.std.proofs.Common.{◌≡◌}
use Rattle.toga_say.specs.Table.{widest}
use Rattle.toga_say.proofs.table.widest.Given as goal

abbrev pub invariant-loop-p : goal.invariant-loop-p
invariant-loop-p l = l.width ≡ widest l.turns l.column l.p
