use Rattle.std.proofs.Common.{◌≡◌, ℕ, ◌+◌, ◌<◌, ◌≤◌, length, get_or}
use Rattle.sa_vp_model.specs.Turn.{loss}
use Rattle.sa_vp.proofs.turn.add_losses.Given as goal

-- those of the first spaces are added
abbrev pub invariant-loop-s : goal.invariant-loop-s
invariant-loop-s l = record {
  many : length l.lost.items ≡ length l.initial.lost.items;
  done : (k : ℕ) → k < l.s → get_or l.lost.items k 0 ≡ get_or l.initial.lost.items k 0 + loss l.replay.state l.blocked.items k;
  left : (k : ℕ) → l.s ≤ k → get_or l.lost.items k 0 ≡ get_or l.initial.lost.items k 0;
}
