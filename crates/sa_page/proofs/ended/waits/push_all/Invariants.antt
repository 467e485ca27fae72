use Rattle.std.proofs.Common.{◌≡◌, ◌++◌, take}
use Rattle.std.specs.List.{flat_map}
use Rattle.sa_page.specs.Ended.{wait_said}
use Rattle.sa_page.proofs.ended.waits.push_all.Given as goal

abbrev pub invariant-loop-wait : goal.invariant-loop-wait
invariant-loop-wait l = l.out.items ≡ l.initial.out.items ++ flat_map (wait_said l.replay.state) (take l.wait-index l.waits)
