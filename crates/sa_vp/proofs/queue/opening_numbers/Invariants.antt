use Rattle.std.proofs.Common.{◌≡◌}
use Rattle.std.specs.List.{range_with_len}
use Rattle.sa_virtual.specs.Virtual.{of_places}
use Rattle.sa_vp_model.specs.Board.{act_numbers}
use Rattle.sa_vp.proofs.queue.opening_numbers.Given as goal

abbrev pub invariant-loop-k : goal.invariant-loop-k
invariant-loop-k l = l.numbers.items ≡ act_numbers (of_places l.spaces (range_with_len 0 l.k))
