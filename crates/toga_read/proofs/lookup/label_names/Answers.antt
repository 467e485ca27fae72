use Rattle.std.proofs.Common.{◌∙◌, ap}
use Rattle.toga_draft.specs.declared.draft.LabelDraft.{LabelDraft}
use Rattle.toga_read.proofs.Loops.{mapped-more, mapped-all}
use Rattle.toga_read.proofs.lookup.label_names.Goals as goal

pub loop-label-preserved : goal.loop-label-preserved
loop-label-preserved c =
    mapped-more (λ (l : LabelDraft). l.name.text) c.args.labels.now c.loop-label.label-index c.label-item.result c.loop-label.names.items c.push.new.self.items c.in_ok-copied.field-0
    c.loop-label-test.true c.loop-label.invariant (c.in_ok-copied.ensures ∙ ap (λ (l : LabelDraft). l.name.text) c.label-item.is) c.in_ok-push.ensures.items

pub returns : goal.returns
returns c = mapped-all (λ (l : LabelDraft). l.name.text) c.args.labels.now c.loop-label.label-index c.loop-label.names.items c.loop-label-test.false c.loop-label.invariant
