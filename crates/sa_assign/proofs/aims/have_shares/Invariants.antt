use Rattle.sa_assign.proofs.CountLemmas.{AreMissing}
use Rattle.sa_assign.proofs.aims.have_shares.Given as goal

abbrev pub invariant-loop-p : goal.invariant-loop-p
invariant-loop-p l = AreMissing l.shares l.aims l.p l.missing
