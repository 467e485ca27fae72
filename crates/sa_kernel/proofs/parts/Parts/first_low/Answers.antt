use Rattle.std.proofs.Common.{length, sym, ◌∙◌}
use Rattle.sa_kernel.specs.View.{state_of}
use Rattle.sa_kernel_model.specs.Closing.{has_low_line}
use Rattle.sa_kernel.proofs.Least.{least-more, least-found, least-none}
use Rattle.sa_kernel.proofs.parts.Parts.first_low.Goals as goal

pub returns-then-has_low_line-clause-is : goal.returns-then-has_low_line-clause-is
returns-then-has_low_line-clause-is g c =
    let k = state_of c.args.self.now in
    sym (least-found (length k.lives) _ (has_low_line k c.args.s.0) c.loop-q.q _ c.loop-q.invariant c.has_low_line.ensures c.if-has_low_line.true
    c.loop-q-test.true (c.processors-q-end.ensures.owners ∙ c.requires.owners))

pub loop-q-preserved : goal.loop-q-preserved
loop-q-preserved g c =
    least-more c.loop-q.q (has_low_line (state_of c.args.self.now) c.args.s.0) _ c.loop-q.invariant c.has_low_line.ensures c.if-has_low_line.false

pub returns-clause-is : goal.returns-clause-is
returns-clause-is g c =
    let k = state_of c.args.self.now in
    sym (least-none (length k.lives) _ (has_low_line k c.args.s.0) c.loop-q.q c.loop-q.invariant c.loop-q.auto.q-end c.loop-q-test.false
    (c.processors-q-end.ensures.owners ∙ c.requires.owners))
