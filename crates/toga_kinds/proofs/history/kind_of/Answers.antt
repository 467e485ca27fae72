use Rattle.std.proofs.Common.{◌∙◌, ap}
use Rattle.toga_kinds.specs.declared.kind.Kind.TheVariants.{Kernel}
use Rattle.toga_kinds.specs.Kinds.{first_of, kind_of_record}
use Rattle.toga_kinds.proofs.Events.{kinds-more}
use Rattle.toga_kinds.proofs.history.kind_of.Goals as goal

pub loop-item-preserved : goal.loop-item-preserved
loop-item-preserved c =
    kinds-more (first_of Kernel (kind_of_record c.args.first.now.what)) c.loop-item.kind c.first_of-kind-in-loop-item.result c.args.others.now
    c.loop-item.item-index _ c.loop-item-test.true c.loop-item.invariant
    (c.first_of-kind-in-loop-item.ensures ∙ ap (first_of c.loop-item.kind) c.kind_of_record-in-loop-item.ensures)
