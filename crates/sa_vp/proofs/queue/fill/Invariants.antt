use Rattle.std.proofs.Common.{◌≡◌}
use Rattle.sa_vp.proofs.Filling.{filled}
use Rattle.sa_vp.proofs.queue.fill.Given as goal

abbrev pub invariant-loop-number : goal.invariant-loop-number
invariant-loop-number l = l.links ≡ filled l.initial.links 0 l.numbers l.number-index
