use Rattle.std.proofs.Common.{sym, ◌∙◌, rules}
use Rattle.std.proofs.lemmas.List.{drop-drop}
use Rattle.sa_batch.proofs.Waiting.{none-waits, none-left, last-leaves}
use Rattle.sa_batch.proofs.batch.Batch.next.Goals as goal

pub returns-in_err-note-clause-first : goal.returns-in_err-note-clause-first
returns-in_err-note-clause-first c =
    rw (← c.self.view_is) (c.from_residual.ensures
    ∙ none-waits c.self.inside.notes.items c.self.inside.first (search rules))

pub returns-in_err-note-clause-notes : goal.returns-in_err-note-clause-notes
returns-in_err-note-clause-notes c =
    rw (← c.self.view_is) (none-left c.self.inside.notes.items c.self.inside.first (search rules))

pub returns-then-self-len-clause-notes : goal.returns-then-self-len-clause-notes
returns-then-self-len-clause-notes c =
    rw (← c.self.view_is) (c.clear.ensures.items ∙ last-leaves c.self.inside.notes.items c.self.inside.first (c.if-self-len.true ∙ c.len.ensures.value))

pub returns-else-self-len-clause-notes : goal.returns-else-self-len-clause-notes
returns-else-self-len-clause-notes c = rw (← c.self.view_is) (sym (drop-drop 1 c.self.inside.first c.self.inside.notes.items))
