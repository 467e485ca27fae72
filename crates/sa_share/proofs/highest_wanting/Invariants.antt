use Rattle.sa_share.proofs.ServingLemmas.{IsHighestSoFar}
use Rattle.sa_share.proofs.highest_wanting.Given as goal

abbrev pub invariant-loop-space : goal.invariant-loop-space
invariant-loop-space l = IsHighestSoFar l.space l.claims l.shares l.highest
