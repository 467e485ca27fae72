use Rattle.std.proofs.Common.{◌≡◌, ◌++◌}
use Rattle.sa_virtual.specs.Virtual.{of_place}
use Rattle.sa_vp_model.specs.Board.{act_numbers}
use Rattle.sa_vp.proofs.queue.add_place.Given as goal

abbrev pub invariant-loop-s : goal.invariant-loop-s
invariant-loop-s l = l.numbers.items ≡ l.initial.numbers.items ++ act_numbers (of_place l.s l.k)
