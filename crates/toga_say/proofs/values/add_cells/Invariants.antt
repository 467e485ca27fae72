use Rattle.std.proofs.Common.{◌≡◌, ◌++◌, ◌∷◌, [], take}
use Rattle.std.specs.List.{flat_map, enumerate_from}
use Rattle.toga_say.specs.Values.{cell_entry}
use Rattle.toga_say.proofs.values.add_cells.Given as goal

abbrev pub invariant-loop-place : goal.invariant-loop-place
invariant-loop-place l = l.entries.items ≡ l.initial.entries.items ++ flat_map (λ x. cell_entry l.scene l.own x.0 x.1 ∷ []) (enumerate_from 0 (take l.place l.cells))
