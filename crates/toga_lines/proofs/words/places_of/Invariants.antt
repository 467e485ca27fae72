use Rattle.std.proofs.Common.{◌≡◌, take}
use Rattle.toga_lines.specs.Words.{places_of}
use Rattle.toga_lines.proofs.words.places_of.Given as goal

abbrev pub invariant-loop-number : goal.invariant-loop-number
invariant-loop-number l = l.places.items ≡ places_of (take l.number l.content)
