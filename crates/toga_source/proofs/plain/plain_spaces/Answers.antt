use Rattle.std.proofs.Common.{◌∙◌, ap}
use Rattle.toga_source.specs.Plain.{plain_space}
use Rattle.toga_source.proofs.Loops.{made-more, made-all}
use Rattle.toga_source.proofs.plain.plain_spaces.Goals as goal

pub loop-number-preserved : goal.loop-number-preserved
loop-number-preserved c =
    made-more plain_space c.args.spaces.now c.loop-number.number c.index-spaces-number.result c.loop-number.names.items c.push.new.self.items c.in_ok-plain_space.field-0
    c.loop-number-test.true c.loop-number.invariant
    (c.in_ok-plain_space.ensures ∙ ap (plain_space c.loop-number.number) c.index-spaces-number.is) c.in_ok-push.ensures.items

pub returns : goal.returns
returns c = made-all plain_space c.args.spaces.now c.loop-number.number c.loop-number.names.items c.loop-number-test.false c.loop-number.invariant
