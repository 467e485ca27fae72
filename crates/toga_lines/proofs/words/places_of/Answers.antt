use Rattle.std.proofs.Common.{[]}
use Rattle.toga_lines.specs.Words.{with_byte}
use Rattle.toga_lines.proofs.Loops.{folded-more, folded-all}
use Rattle.toga_lines.proofs.words.places_of.Goals as goal

pub loop-number-preserved : goal.loop-number-preserved
loop-number-preserved c =
    folded-more with_byte [] c.args.content.now c.loop-number.number _ c.loop-number.places.items c.push_byte.new.places.items c.loop-number-test.true
    c.loop-number.invariant c.in_ok-push_byte.ensures

pub returns : goal.returns
returns c =
    folded-all with_byte [] c.args.content.now c.loop-number.number c.loop-number.places.items c.loop-number-test.false c.loop-number.invariant
