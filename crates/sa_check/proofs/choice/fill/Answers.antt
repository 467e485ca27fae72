use Rattle.std.proofs.Common.{◌∙◌, arith, ap, sym}
use Rattle.sa_assign.specs.Aims.{choice}
use Rattle.sa_check.specs.Reaimed.{reaimed}
use Rattle.sa_check.proofs.ChangeLemmas.{filled-some}
use Rattle.sa_check.proofs.choice.fill.Goals as goal

pub loop-preserved : goal.loop-preserved
loop-preserved c = record {
  carried =
      filled-some c.saturating_sub-missing.result c.loop.counter c.args.shares.now c.args.marks.now c.args.s.0 c.in-Some.p (reaimed c.loop.now)
      (reaimed c.aim.new.now) c.loop-test.true
      (sym (c.in-Some.ensures.choice ∙ ap (choice c.args.shares.now c.args.marks.now) c.deref-in-loop.ensures.0)) c.in_ok-aim.ensures.carried
      ∙ c.loop.invariant.carried;
  few = (let few = c.loop.invariant.few in let same = c.aim.ensures.few in omega arith);
}
