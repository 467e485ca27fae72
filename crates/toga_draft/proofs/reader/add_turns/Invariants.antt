use Rattle.std.proofs.Common.{◌≡◌, drop}
use Rattle.toga_draft.specs.Operands.{add_turn}
use Rattle.toga_draft.specs.Reading.{in_turn}
use Rattle.toga_draft.proofs.reader.add_turns.Given as goal

abbrev pub invariant-loop-word : goal.invariant-loop-word
invariant-loop-word l =
    in_turn (add_turn l.line l.last) (drop l.word-index l.words) l.turns.items ≡ in_turn (add_turn l.line l.last) l.words l.initial.turns.items
