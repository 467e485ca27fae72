use Rattle.std.proofs.Common.{◌≡◌, ◌++◌, replicate}
use Rattle.toga_diagnostic.proofs.shown.push_times.Given as goal

abbrev pub invariant-loop-count : goal.invariant-loop-count
invariant-loop-count l = l.out.items ≡ l.initial.out.items ++ replicate l.count l.byte
