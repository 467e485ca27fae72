use Rattle.std.proofs.Common.{◌≡◌, ◌++◌, take}
use Rattle.std.specs.List.{flat_map}
use Rattle.sa_explore_run.specs.Text.{wait_text}
use Rattle.sa_explore_run.proofs.printing.push_waits.Given as goal

abbrev pub invariant-loop-wait : goal.invariant-loop-wait
invariant-loop-wait l = l.out.items ≡ l.initial.out.items ++ flat_map wait_text (take l.wait-index l.waits)
