use Rattle.std.proofs.Common.{◌≡◌, ◌++◌, take}
use Rattle.std.specs.List.{flat_map}
use Rattle.toga_say.specs.Circles.{circle_said}
use Rattle.toga_say.proofs.circles.push_circles.Given as goal

abbrev pub invariant-loop-wait : goal.invariant-loop-wait
invariant-loop-wait l = l.out.items ≡ l.initial.out.items ++ flat_map (circle_said l.scene l.waits) (take l.wait-index l.waits)
