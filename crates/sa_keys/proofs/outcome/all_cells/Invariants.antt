use Rattle.std.proofs.Common.{◌≡◌, map, take}
use Rattle.sa_core.specs.View.{machine}
use Rattle.sa_keys.proofs.outcome.all_cells.Given as goal

abbrev pub invariant-loop-s : goal.invariant-loop-s
invariant-loop-s g l = map (λ c. c.items) l.cells.items ≡ map g.U.Keyed.cells_of (take l.s (machine l.core).users)
