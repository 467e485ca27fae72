use Rattle.std.proofs.Common.{◌≡◌, ◌++◌, take}
use Rattle.std.specs.List.{flat_map}
use Rattle.toga_say.specs.Search.{wait_line}
use Rattle.toga_say.proofs.search.push_wait_lines.Given as goal

abbrev pub invariant-loop-wait : goal.invariant-loop-wait
invariant-loop-wait l = l.out.items ≡ l.initial.out.items ++ flat_map (wait_line l.scene l.notes l.waits) (take l.wait-index l.waits)
