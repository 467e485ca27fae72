use Rattle.std.proofs.Common.{◌∙◌, arith, length-set}
use Rattle.sa_share.specs.Share.{want_at}
use Rattle.sa_share.proofs.ServingLemmas.{met-more}
use Rattle.sa_share.proofs.whole_wants.Goals as goal

pub loop-space-preserved : goal.loop-space-preserved
loop-space-preserved c =
    let claims = c.args.claims.now in
    let space = c.loop-space.space in
    let wants = c.loop-space.wants in
    let more = met-more space claims wants (omega arith) c.loop-space.invariant.met in
    record {
      given = omega (arith, more.0, c.in_ok-left.ensures);
      met = more.1;
      places = length-set wants space (want_at claims space) ∙ c.loop-space.invariant.places;
    }
