use Rattle.std.proofs.Common.{◌≡◌, ◌++◌, take}
use Rattle.std.specs.List.{flat_map}
use Rattle.sa_laws.specs.State.{space_at}
use Rattle.sa_check_moment.specs.Seen.{seen}
use Rattle.sa_cells.specs.Life.{hand_thread}
use Rattle.sa_cells.proofs.life.push_hand.Given as goal

abbrev pub invariant-loop-t : goal.invariant-loop-t
invariant-loop-t l = l.out.items ≡ l.initial.out.items ++ flat_map (hand_thread (space_at (seen l.moment).readings.state l.s)) (take l.t-index l.hand)
