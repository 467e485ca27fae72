use Rattle.std.proofs.Common.{◌≡◌, ℕ, ◌≤◌, slice_index}
use Rattle.sa_lists.proofs.rank_set.RankSet.greatest.Given as goal

-- the words from here on are 0
abbrev pub invariant-loop-at : goal.invariant-loop-at
invariant-loop-at l = (i : ℕ) → l.at ≤ i → slice_index l.self.words i ≡ 0
