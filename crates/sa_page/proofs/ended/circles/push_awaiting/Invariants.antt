use Rattle.std.proofs.Common.{◌≡◌, ◌++◌, take}
use Rattle.std.specs.List.{flat_map}
use Rattle.sa_page.specs.Ended.{awaiting}
use Rattle.sa_page.proofs.ended.circles.push_awaiting.Given as goal

abbrev pub invariant-loop-t : goal.invariant-loop-t
invariant-loop-t l = l.out.items ≡ l.initial.out.items ++ flat_map awaiting (take l.t-index l.threads)
