use Rattle.std.proofs.Common.{◌≡◌, take, map}
use Rattle.toga_draft.specs.Draft.{ProgramDraftView}
use Rattle.toga_read.proofs.lookup.own_names.Given as goal

abbrev pub invariant-loop-program : goal.invariant-loop-program
invariant-loop-program l = l.names.items ≡ map (λ (p : ProgramDraftView). p.name.text) (take l.program-index l.programs)
