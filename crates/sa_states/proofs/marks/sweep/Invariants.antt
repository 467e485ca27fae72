use Rattle.std.proofs.Common.{◌≡◌, ℕ, ◌<◌, ◌≤◌, Some, true, false, not, count_by, slice_get}
use Rattle.sa_states.specs.Sweep.{IsNear, AreSound}
use Rattle.sa_states.proofs.marks.sweep.Given as goal

abbrev pub invariant-loop-state : goal.invariant-loop-state
invariant-loop-state l = record {
  sound : AreSound l.processors l.states l.nexts l.marks;
  more : l.more ≡ true → count_by not l.marks < count_by not l.initial.marks;
  same : l.more ≡ false → l.marks ≡ l.initial.marks;
  all : l.more ≡ false → (k : ℕ) → l.state ≤ k → slice_get l.marks k ≡ Some false → IsNear l.processors l.states l.nexts l.marks k → ⊥;
}
