use Rattle.std.proofs.Common.{◌≡◌, drop}
use Rattle.toga_draft.specs.Declarations.{add_cell}
use Rattle.toga_draft.specs.Reading.{in_turn}
use Rattle.toga_draft.proofs.declarations.add_cells.Given as goal

abbrev pub invariant-loop-word : goal.invariant-loop-word
invariant-loop-word l = in_turn (add_cell l.line) (drop l.word-index l.words) l.space ≡ in_turn (add_cell l.line) l.words l.initial.space
