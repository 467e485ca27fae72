use Rattle.std.proofs.Common.{◌≡◌}
use Rattle.sa_virtual.specs.Holding.{numbers}
use Rattle.sa_vp.proofs.Filling.{filled}
use Rattle.sa_vp.proofs.queue.put_behind.Given as goal

abbrev pub invariant-loop-t : goal.invariant-loop-t
invariant-loop-t l = l.links ≡ filled l.initial.links l.l.0 (numbers l.threads) l.t-index
