use Rattle.std.proofs.Common.{◌≡◌, drop}
use Rattle.toga_source.specs.Show.{place_word}
use Rattle.toga_source.proofs.program.push_place_word.Given as goal

abbrev pub invariant-loop-label : goal.invariant-loop-label
invariant-loop-label l = (l.out.items ≡ l.initial.out.items) × (place_word l.labels l.place ≡ place_word (drop l.label-index l.labels) l.place)
