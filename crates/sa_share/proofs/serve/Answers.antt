use Rattle.std.proofs.Common.{arith}
use Rattle.sa_share.proofs.ServingLemmas.{given-one, served, passed, round-some, round-level}
use Rattle.sa_share.proofs.serve.Goals as goal
use Rattle.sa_share.proofs.serve.Goals.{then-claims-space+then-shares-space, else-claims-space, else-claims-space-via-then-claims-space+else-shares-space, else-claims-space-via-else-claims-space}

pub loop-rank-preserved : goal.loop-rank-preserved
loop-rank-preserved c =
    let rank = c.loop-rank.rank in
    let first = c.args.first in
    let claims = c.args.claims.now in
    let start = c.args.shares.now in
    let now = c.loop-rank.shares in
    let space = c.space_of-space.result in
    let serving = c.loop-rank.invariant.serving in
    elim c.if-claims-space.branch [
      | then-claims-space+then-shares-space w ↦
          let own = w.if-claims-space.true in
          let more = w.if-shares-space.true in
          let one = given-one c.args.priority rank first claims start now space (omega arith) (omega arith) c.space_of-space.ensures.within c.space_of-space.ensures.rank
          own more c.requires.level c.requires.highest serving c.loop-rank.invariant.shares in
          rw (w.shares-is, w.given-is) (record {
            shares = one.1;
            given = omega (arith, one.0);
            few = omega arith;
            serving = served c.args.priority rank first claims start now space (omega arith) (omega arith) c.space_of-space.ensures.within c.space_of-space.ensures.rank
                own more serving;
          })
      | else-claims-space w ↦ rw (w.shares-is, w.given-is) (record {
        shares = c.loop-rank.invariant.shares;
        given = c.loop-rank.invariant.given;
        few = c.loop-rank.invariant.few;
        serving = passed c.args.priority rank first claims start now space (omega arith) c.space_of-space.ensures.within c.space_of-space.ensures.rank
            (elim w.else-claims-space.branch [
              | else-claims-space-via-then-claims-space+else-shares-space v ↦ λ own. v.if-shares-space.false
              | else-claims-space-via-else-claims-space v ↦ λ own. absurd (v.if-claims-space.false own)
            ]) serving;
      })
    ]

pub returns-clause-some : goal.returns-clause-some
returns-clause-some c =
    omega (
      arith,
      round-some c.args.priority c.loop-rank.rank c.args.first c.args.claims.now c.args.shares.now c.loop-rank.shares
          (omega arith) c.requires.highest c.loop-rank.invariant.serving,
    )

pub returns-clause-level : goal.returns-clause-level
returns-clause-level c = λ _.
    round-level c.args.priority c.loop-rank.rank c.args.first c.args.claims.now c.args.shares.now c.loop-rank.shares
    (omega arith) c.requires.level c.loop-rank.invariant.serving
