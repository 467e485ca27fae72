use Rattle.std.proofs.Common.{◌++◌, ◌∙◌, ap}
use Rattle.toga_source.proofs.Loops.{numbered-more, numbered-all}
use Rattle.toga_diagnostic.specs.Listed.{listed_name}
use Rattle.toga_diagnostic.proofs.listed.push_names.Goals as goal

pub loop-number-preserved : goal.loop-number-preserved
loop-number-preserved c =
    numbered-more listed_name c.args.names.now c.loop-number.number c.index-names-number.result c.args.out.now.items c.loop-number.out.items
    c.push_name.new.out.items c.loop-number-test.true c.loop-number.invariant
    (c.in_ok-push_name.ensures ∙ ap (λ x. c.loop-number.out.items ++ listed_name c.loop-number.number x) c.index-names-number.is)

pub returns : goal.returns
returns c =
    numbered-all listed_name c.args.names.now c.loop-number.number c.args.out.now.items c.loop-number.out.items c.loop-number-test.false c.loop-number.invariant
