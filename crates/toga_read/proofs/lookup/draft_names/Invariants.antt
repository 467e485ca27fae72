use Rattle.std.proofs.Common.{◌≡◌, take, map}
use Rattle.toga_draft.specs.declared.draft.NameDraft.{NameDraft}
use Rattle.toga_read.proofs.lookup.draft_names.Given as goal

abbrev pub invariant-loop-draft : goal.invariant-loop-draft
invariant-loop-draft l = l.names.items ≡ map (λ (d : NameDraft). d.name) (take l.draft-index l.drafts)
