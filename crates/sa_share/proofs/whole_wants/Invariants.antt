use Rattle.std.proofs.Common.{◌≡◌, ◌+◌, length, sum}
use Rattle.sa_base.specs.declared.limits.TheConstants.{MAX_SPACES}
use Rattle.sa_share.proofs.ServingLemmas.{AreMetBelow}
use Rattle.sa_share.proofs.whole_wants.Given as goal

abbrev pub invariant-loop-space : goal.invariant-loop-space
invariant-loop-space l = record {
  given : sum l.wants + l.left ≡ l.processors;
  met : AreMetBelow l.space l.claims l.wants;
  places : length l.wants ≡ MAX_SPACES;
}
