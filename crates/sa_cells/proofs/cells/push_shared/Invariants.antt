use Rattle.std.proofs.Common.{◌≡◌, ◌++◌}
use Rattle.sa_cells.specs.Cells.{shared_cell, up_to}
use Rattle.sa_cells.proofs.cells.push_shared.Given as goal

abbrev pub invariant-loop-n : goal.invariant-loop-n
invariant-loop-n l = l.cells.items ≡ l.initial.cells.items ++ up_to (shared_cell l.s) l.n
