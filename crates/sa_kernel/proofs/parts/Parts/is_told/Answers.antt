use Rattle.std.proofs.Common.{length, is_some, sym, ap, ◌∙◌}
use Rattle.sa_kernel.specs.View.{state_of}
use Rattle.sa_kernel_model.specs.Closing.{is_told_by}
use Rattle.sa_kernel.proofs.Least.{least-more, least-found, least-none}
use Rattle.sa_kernel.proofs.parts.Parts.is_told.Goals as goal

pub returns-then-is_told_by : goal.returns-then-is_told_by
returns-then-is_told_by g c =
    let k = state_of c.args.self.now in
    sym (ap is_some (least-found (length k.lives) _ (is_told_by k c.args.s.0) c.loop-q.q _ c.loop-q.invariant c.is_told_by.ensures c.if-is_told_by.true
    c.loop-q-test.true (c.processors-q-end.ensures.owners ∙ c.requires.owners)))

pub loop-q-preserved : goal.loop-q-preserved
loop-q-preserved g c =
    least-more c.loop-q.q (is_told_by (state_of c.args.self.now) c.args.s.0) _ c.loop-q.invariant c.is_told_by.ensures c.if-is_told_by.false

pub returns : goal.returns
returns g c =
    let k = state_of c.args.self.now in
    sym (ap is_some (least-none (length k.lives) _ (is_told_by k c.args.s.0) c.loop-q.q c.loop-q.invariant c.loop-q.auto.q-end c.loop-q-test.false
    (c.processors-q-end.ensures.owners ∙ c.requires.owners)))
