use Rattle.std.proofs.Common.{[]}
use Rattle.toga_source.specs.Runs.{with_turn}
use Rattle.toga_source.proofs.Loops.{folded-more, folded-all}
use Rattle.toga_source.proofs.turns.runs_of.Goals as goal

pub loop-number-preserved : goal.loop-number-preserved
loop-number-preserved c =
    folded-more with_turn [] c.args.turns.now c.loop-number.number _ c.loop-number.runs.items c.push_turn.new.runs.items
    c.loop-number-test.true c.loop-number.invariant c.in_ok-push_turn.ensures

pub returns : goal.returns
returns c = folded-all with_turn [] c.args.turns.now c.loop-number.number c.loop-number.runs.items c.loop-number-test.false c.loop-number.invariant
