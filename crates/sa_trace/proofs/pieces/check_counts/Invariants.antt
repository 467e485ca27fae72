use Rattle.std.proofs.Common.{◌≡◌, drop}
use Rattle.sa_trace.specs.Pieces.{wrong_count}
use Rattle.sa_trace.proofs.pieces.check_counts.Given as goal

-- what is wrong with all counts is wrong with those that are left
abbrev pub invariant-loop-count : goal.invariant-loop-count
invariant-loop-count l = wrong_count l.counts l.initial.words ≡ wrong_count (drop l.count-index l.counts) l.words
