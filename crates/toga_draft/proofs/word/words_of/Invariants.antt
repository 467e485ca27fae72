use Rattle.std.proofs.Common.{◌≡◌, map, take}
use Rattle.toga_lines.specs.Words.{places_of}
use Rattle.toga_draft.specs.Words.{word_in}
use Rattle.toga_draft.proofs.word.words_of.Given as goal

abbrev pub invariant-loop-place : goal.invariant-loop-place
invariant-loop-place l = (l.place-items ≡ places_of l.content) × (l.words.items ≡ map (word_in l.content) (take l.place-index l.place-items))
