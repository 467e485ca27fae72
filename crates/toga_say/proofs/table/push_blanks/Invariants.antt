use Rattle.std.proofs.Common.{◌≡◌, ◌++◌, replicate}
use Rattle.toga_say.proofs.table.push_blanks.Given as goal

abbrev pub invariant-loop-place : goal.invariant-loop-place
invariant-loop-place l = l.out.items ≡ l.initial.out.items ++ replicate l._place 32
