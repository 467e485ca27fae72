use Rattle.std.proofs.Common.{◌≡◌, take, map}
use Rattle.toga_draft.specs.declared.draft.LabelDraft.{LabelDraft}
use Rattle.toga_read.proofs.lookup.label_names.Given as goal

abbrev pub invariant-loop-label : goal.invariant-loop-label
invariant-loop-label l = l.names.items ≡ map (λ (l : LabelDraft). l.name.text) (take l.label-index l.labels)
