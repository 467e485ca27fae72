use Rattle.std.proofs.Common.{◌≡◌, replicate}
use Rattle.toga_say.specs.Notes.{blank}
use Rattle.toga_say.proofs.notes.blanks.Given as goal

abbrev pub invariant-loop-place : goal.invariant-loop-place
invariant-loop-place l = l.notes.items ≡ replicate l._place blank
