use Rattle.std.proofs.Common.{◌≡◌, ◌++◌, take}
use Rattle.std.specs.List.{flat_map}
use Rattle.sa_cells.specs.Space.{act_if}
use Rattle.sa_cells.proofs.space.push_running.Given as goal

abbrev pub invariant-loop-a : goal.invariant-loop-a
invariant-loop-a l = l.acts.items ≡ l.initial.acts.items ++ flat_map act_if (take l.a-index l.running)
