use Rattle.std.proofs.Common.{◌≡◌, ◌++◌}
use Rattle.sa_cells.specs.Cells.{mutex_cell, up_to}
use Rattle.sa_cells.proofs.cells.push_mutexes.Given as goal

abbrev pub invariant-loop-n : goal.invariant-loop-n
invariant-loop-n l = l.cells.items ≡ l.initial.cells.items ++ up_to (mutex_cell l.s) l.n
