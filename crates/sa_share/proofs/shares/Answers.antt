use Rattle.std.proofs.Common.{subst, arith}
use Rattle.sa_share.specs.Share.{IsShare}
use Rattle.sa_share.proofs.RoundLemmas.{shares_of-unique}
use Rattle.sa_share.proofs.ServingLemmas.{whole-share}
use Rattle.sa_share.proofs.shares.Goals as goal

pub returns-in-Some-clause-shares : goal.returns-in-Some-clause-shares
returns-in-Some-clause-shares c =
    whole-share c.args.processors c.args.first c.args.claims.now c.in-Some.wants c.in-Some.ensures.met c.in-Some.ensures.few

pub returns-in-Some-clause-function : goal.returns-in-Some-clause-function
returns-in-Some-clause-function c =
    shares_of-unique c.args.processors c.args.first c.args.claims.now c.in-Some.wants c.requires.spaces c.requires.first
    (returns-in-Some-clause-shares c) (omega arith)

pub returns-in-None-clause-function : goal.returns-in-None-clause-function
returns-in-None-clause-function c =
    let claims = c.args.claims.now in
    shares_of-unique c.args.processors c.args.first claims c.shares_in_rounds.result c.requires.spaces c.requires.first
    (subst (λ first. IsShare c.args.processors first claims c.shares_in_rounds.result) c.from.ensures c.shares_in_rounds.ensures) (omega arith)
