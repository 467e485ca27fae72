use Rattle.std.proofs.Common.{◌∙◌, ap}
use Rattle.toga_read.specs.Names.{space_names}
use Rattle.toga_read.proofs.Loops.{mapped-more, mapped-all}
use Rattle.toga_read.proofs.names.names_of.Goals as goal

pub loop-space-preserved : goal.loop-space-preserved
loop-space-preserved c =
    mapped-more space_names c.args.spaces.now c.loop-space.space-index c.space-item.result c.loop-space.names.items c.push.new.self.items c.in_ok-space_names.field-0
    c.loop-space-test.true c.loop-space.invariant (c.in_ok-space_names.ensures ∙ ap space_names c.space-item.is) c.in_ok-push.ensures.items

pub returns : goal.returns
returns c = mapped-all space_names c.args.spaces.now c.loop-space.space-index c.loop-space.names.items c.loop-space-test.false c.loop-space.invariant
