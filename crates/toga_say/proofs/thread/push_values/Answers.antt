use Rattle.toga_source.proofs.Loops.{numbered-more, numbered-all}
use Rattle.toga_say.specs.Thread.{value_text}
use Rattle.toga_say.proofs.thread.push_values.Goals as goal

pub loop-number-preserved : goal.loop-number-preserved
loop-number-preserved c =
    numbered-more value_text c.args.values.now c.loop-number.number _ c.args.out.now.items c.loop-number.out.items c.push_value.new.out.items
    c.loop-number-test.true c.loop-number.invariant c.in_ok-push_value.ensures

pub returns : goal.returns
returns c =
    numbered-all value_text c.args.values.now c.loop-number.number c.args.out.now.items c.loop-number.out.items c.loop-number-test.false
    c.loop-number.invariant
