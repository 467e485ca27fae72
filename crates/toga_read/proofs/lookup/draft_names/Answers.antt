use Rattle.std.proofs.Common.{◌∙◌, ap}
use Rattle.toga_draft.specs.declared.draft.NameDraft.{NameDraft}
use Rattle.toga_read.proofs.Loops.{mapped-more, mapped-all}
use Rattle.toga_read.proofs.lookup.draft_names.Goals as goal

pub loop-draft-preserved : goal.loop-draft-preserved
loop-draft-preserved c =
    mapped-more (λ (d : NameDraft). d.name) c.args.drafts.now c.loop-draft.draft-index c.draft-item.result c.loop-draft.names.items c.push.new.self.items c.in_ok-copied.field-0
    c.loop-draft-test.true c.loop-draft.invariant (c.in_ok-copied.ensures ∙ ap (λ (d : NameDraft). d.name) c.draft-item.is) c.in_ok-push.ensures.items

pub returns : goal.returns
returns c = mapped-all (λ (d : NameDraft). d.name) c.args.drafts.now c.loop-draft.draft-index c.loop-draft.names.items c.loop-draft-test.false c.loop-draft.invariant
