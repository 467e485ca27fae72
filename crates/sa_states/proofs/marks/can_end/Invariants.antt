use Rattle.std.proofs.Common.{◌≡◌, ℕ, ◌+◌, ◌*◌, ◌<◌, Some, true, slice_get}
use Rattle.sa_states.proofs.marks.can_end.Given as goal

abbrev pub invariant-loop-proc : goal.invariant-loop-proc
invariant-loop-proc l =
    (p to : ℕ) → p < l.proc → slice_get l.nexts (l.state * l.processors + p) ≡ Some to → slice_get l.marks to ≡ Some true → ⊥
