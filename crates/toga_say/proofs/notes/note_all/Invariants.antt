use Rattle.std.proofs.Common.{◌≡◌, drop, None}
use Rattle.toga_say.specs.Notes.{notes_from}
use Rattle.toga_say.proofs.notes.note_all.Given as goal

abbrev pub invariant-loop-item : goal.invariant-loop-item
invariant-loop-item l = notes_from l.notes l.last (drop l.item-index l.items) ≡ notes_from l.initial.notes None l.items
