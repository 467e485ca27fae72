use Rattle.std.proofs.Common.{◌∙◌}
use Rattle.sa_check.specs.Reaimed.{reaimed}
use Rattle.sa_check.proofs.ChangeLemmas.{served}
use Rattle.sa_check.proofs.choice.changes.Goals as goal

pub loop-s-preserved : goal.loop-s-preserved
loop-s-preserved c = record {
  carried =
      served c.args.spaces c.loop-s.s c.args.shares.now c.args.marks.now (reaimed c.loop-s.reaimed)
      (reaimed c.fill.new.now) c.loop-s-test.true c.in_ok-fill.ensures.carried ∙ c.loop-s.invariant.carried;
  few = c.fill.ensures.few;
}
