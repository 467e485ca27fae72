use Rattle.std.proofs.Common.{◌≡◌, ◌+◌, drop}
use Rattle.sa_drawing.specs.Losses.{losses_at}
use Rattle.sa_drawing.proofs.losses.losses_at.Given as goal

abbrev pub invariant-loop-i : goal.invariant-loop-i
invariant-loop-i l = l.i + losses_at (drop l.i l.input) ≡ losses_at l.input
