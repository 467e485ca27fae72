use Rattle.std.proofs.Common.{◌≡◌, ◌++◌, take}
use Rattle.std.specs.List.{flat_map}
use Rattle.toga_say.specs.Threads.{line_unless}
use Rattle.toga_say.proofs.threads.push_lines.Given as goal

abbrev pub invariant-loop-at : goal.invariant-loop-at
invariant-loop-at l = l.out.items ≡ l.initial.out.items ++ flat_map (line_unless l.many l.scene l.notes l.waits) (take l.at-index l.made)
