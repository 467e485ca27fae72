use Rattle.std.proofs.Common.{◌∙◌, arith}
use Rattle.sa_vp.proofs.Opening.{number-more}
use Rattle.sa_vp.proofs.queue.add_place.Goals as goal

pub loop-s-preserved : goal.loop-s-preserved
loop-s-preserved c =
    c.in_ok-push.ensures.items ∙ number-more c.args.numbers.now.items c.loop-s.numbers.items c.loop-s.s c.args.k _ (omega arith) c.loop-s.invariant
