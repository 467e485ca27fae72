use Rattle.std.proofs.Common.{◌≡◌, ◌++◌}
use Rattle.sa_cells.specs.Cells.{processor_cells, up_to}
use Rattle.sa_cells.proofs.cells.push_processors.Given as goal

abbrev pub invariant-loop-n : goal.invariant-loop-n
invariant-loop-n l = l.cells.items ≡ l.initial.cells.items ++ up_to processor_cells l.n
