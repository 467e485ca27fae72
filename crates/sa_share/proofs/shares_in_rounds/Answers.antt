use Rattle.std.proofs.Common.{refl, arith, sum, replicate}
use Rattle.sa_base.specs.declared.limits.TheConstants.{MAX_SPACES}
use Rattle.sa_share.proofs.ShareLemmas.{IsShare-none, IsShare-all}
use Rattle.sa_share.proofs.ServingLemmas.{level-none}
use Rattle.sa_share.proofs.shares_in_rounds.Goals as goal

pub loop-left-init : goal.loop-left-init
loop-left-init c = record {
  shares = IsShare-none c.args.first c.args.claims.now _ refl;
  given = omega arith;
  level = λ _. level-none c.args.claims.now (replicate MAX_SPACES 0) refl;
}

pub returns-in_default : goal.returns-in_default
returns-in_default c =
    IsShare-all (sum c.loop-left.shares) c.args.processors c.args.first c.args.claims.now c.loop-left.shares
    (omega arith) c.loop-left.invariant.shares c.in_default.ensures.none
