use Rattle.std.proofs.Common.{◌≡◌, drop}
use Rattle.toga_draft.specs.Declarations.{add_page}
use Rattle.toga_draft.specs.Reading.{in_turn}
use Rattle.toga_draft.proofs.declarations.add_each_page.Given as goal

abbrev pub invariant-loop-word : goal.invariant-loop-word
invariant-loop-word l = in_turn (add_page l.line) (drop l.word-index l.words) l.absent.items ≡ in_turn (add_page l.line) l.words l.initial.absent.items
