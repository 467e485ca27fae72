use Rattle.std.proofs.Common.{◌≡◌, ◌++◌, take}
use Rattle.std.specs.List.{flat_map}
use Rattle.sa_cells.specs.Space.{note_text}
use Rattle.sa_cells.proofs.space.push_untold.Given as goal

abbrev pub invariant-loop-note : goal.invariant-loop-note
invariant-loop-note l = l.out.items ≡ l.initial.out.items ++ flat_map note_text (take l.note-index l.notes)
