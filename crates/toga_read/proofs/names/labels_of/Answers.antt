use Rattle.std.proofs.Common.{◌∙◌, ap, List, ℕ}
use Rattle.toga_source.specs.declared.names.Label.{Label}
use Rattle.toga_read.specs.Names.{label_of}
use Rattle.toga_read.proofs.Loops.{mapped-more, mapped-all}
use Rattle.toga_read.proofs.names.labels_of.Goals as goal

pub loop-draft-preserved : goal.loop-draft-preserved
loop-draft-preserved c =
    let made : List ℕ → Label = λ name. record { place = c.draft-item.result.place; name = name } in
    mapped-more label_of c.args.drafts.now c.loop-draft.draft-index c.draft-item.result c.loop-draft.labels.items c.push.new.self.items (made c.in_ok-name.name)
    c.loop-draft-test.true c.loop-draft.invariant (ap made c.in_ok-name.ensures ∙ ap label_of c.draft-item.is) c.in_ok-push.ensures.items

pub returns : goal.returns
returns c = mapped-all label_of c.args.drafts.now c.loop-draft.draft-index c.loop-draft.labels.items c.loop-draft-test.false c.loop-draft.invariant
