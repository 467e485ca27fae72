use Rattle.std.proofs.Common.{◌≡◌}
use Rattle.sa_waits.specs.Waits.{all_below}
use Rattle.toga_say.specs.Values.{cells_at}
use Rattle.toga_say.proofs.values.cell_entries.Given as goal

abbrev pub invariant-loop-s : goal.invariant-loop-s
invariant-loop-s l = l.entries.items ≡ all_below (cells_at l.scene) l.s
