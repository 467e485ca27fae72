use Rattle.std.proofs.Common.{◌≡◌, ◌++◌, take, map}
use Rattle.toga_explain.specs.Explain.{spaced}
use Rattle.toga_explain.proofs.explaining.push_spaced.Given as goal

abbrev pub invariant-loop-word : goal.invariant-loop-word
invariant-loop-word l = l.out.items ≡ l.initial.out.items ++ spaced (map (λ w. w.now) (take l.word-index l.words))
