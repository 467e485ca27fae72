use Rattle.std.proofs.Common.{arith}
use Rattle.toga_source.proofs.Loops.{folded-more, folded-all}
use Rattle.toga_diagnostic.specs.Shown.{longer}
use Rattle.toga_diagnostic.proofs.shown.length_said.Goals as goal

pub loop-number-preserved : goal.loop-number-preserved
loop-number-preserved c = record {
  said = folded-more longer 0 c.args.line.now c.loop-number.number 0 c.loop-number.said c.longer-next.result c.loop-number-test.true c.loop-number.invariant.said
      c.longer-next.ensures.value;
  within = c.longer-next.ensures.within;
}

pub returns-clause-said : goal.returns-clause-said
returns-clause-said c =
    folded-all longer 0 c.args.line.now c.loop-number.number c.loop-number.said c.loop-number-test.false c.loop-number.invariant.said
