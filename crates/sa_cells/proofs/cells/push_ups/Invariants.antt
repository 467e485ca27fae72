use Rattle.std.proofs.Common.{◌≡◌, ◌++◌, take}
use Rattle.std.specs.List.{flat_map}
use Rattle.sa_cells.specs.Cells.{up_in}
use Rattle.sa_cells.proofs.cells.push_ups.Given as goal

abbrev pub invariant-loop-what : goal.invariant-loop-what
invariant-loop-what l = l.ups.items ≡ l.initial.ups.items ++ flat_map up_in (take l.what-index l.records)
