use Rattle.std.proofs.Common.{sym, ap, ◌∙◌}
use Rattle.toga_draft.specs.Draft.{DraftView}
use Rattle.toga_read.specs.Outcome.{each}
use Rattle.toga_read.specs.Spaces.{space_of}
use Rattle.toga_read.proofs.spaces.workload_of.Goals as goal

pub workload_with-requires-clause-spaces : goal.workload_with-requires-clause-spaces
workload_with-requires-clause-spaces c =
    ap (each space_of) (sym (c.deref.ensures.value ∙ ap (λ (d : DraftView). d.spaces) c.draft.view_is)) ∙ c.in_ok-spaces.ensures.ok
