use Rattle.std.proofs.Common.{◌≡◌, ℕ, ◌<◌, slice_index}
use Rattle.sa_lists.proofs.rank_set.RankSet.least.Given as goal

-- the words before this one are 0
abbrev pub invariant-loop-at : goal.invariant-loop-at
invariant-loop-at l = (i : ℕ) → i < l.at → slice_index l.self.words i ≡ 0
