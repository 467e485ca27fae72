use Rattle.std.proofs.Common.{◌≡◌, ◌++◌, take}
use Rattle.std.specs.List.{flat_map}
use Rattle.sa_page.specs.Ended.{circle_said}
use Rattle.sa_page.proofs.ended.circles.push_circles.Given as goal

abbrev pub invariant-loop-wait : goal.invariant-loop-wait
invariant-loop-wait l = l.out.items ≡ l.initial.out.items ++ flat_map (circle_said l.waits) (take l.wait-index l.waits)
