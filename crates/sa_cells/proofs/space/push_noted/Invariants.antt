use Rattle.std.proofs.Common.{◌≡◌, ◌++◌, take}
use Rattle.std.specs.List.{flat_map}
use Rattle.sa_cells.specs.Space.{act_of_note}
use Rattle.sa_cells.proofs.space.push_noted.Given as goal

abbrev pub invariant-loop-note : goal.invariant-loop-note
invariant-loop-note l = l.acts.items ≡ l.initial.acts.items ++ flat_map act_of_note (take l.note-index l.notes)
