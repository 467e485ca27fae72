use Rattle.std.proofs.Common.{◌≡◌, take, count_by}
use Rattle.sa_svg.proofs.words.aimed_count.Given as goal

abbrev pub invariant-loop-aimed : goal.invariant-loop-aimed
invariant-loop-aimed l = l.count ≡ count_by (λ aimed. aimed) (take l.aimed-index l.aims)
