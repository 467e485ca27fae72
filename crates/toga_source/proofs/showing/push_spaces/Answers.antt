use Rattle.std.proofs.Common.{◌++◌, ◌∙◌, ap}
use Rattle.toga_source.specs.Show.{nth_space_text}
use Rattle.toga_source.proofs.Loops.{numbered-more, numbered-all}
use Rattle.toga_source.proofs.showing.push_spaces.Goals as goal

pub loop-number-preserved : goal.loop-number-preserved
loop-number-preserved c =
    numbered-more (nth_space_text c.args.evictions.now c.args.names.now) c.args.spaces.now c.loop-number.number c.index-spaces-number.result c.args.out.now.items c.loop-number.out.items c.push_nth_space.new.out.items
    c.loop-number-test.true c.loop-number.invariant (c.in_ok-push_nth_space.ensures ∙ ap (λ x. c.loop-number.out.items ++ nth_space_text c.args.evictions.now c.args.names.now c.loop-number.number x) c.index-spaces-number.is)

pub returns : goal.returns
returns c =
    numbered-all (nth_space_text c.args.evictions.now c.args.names.now) c.args.spaces.now c.loop-number.number c.args.out.now.items c.loop-number.out.items c.loop-number-test.false c.loop-number.invariant
