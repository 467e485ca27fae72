-- What a sweep over the states marks.
use Rattle.std.specs.Prelude.{◌≡◌, ℕ, ◌⊎◌, Bool, true, false, List, Some, slice_get}
use Rattle.sa_explore_model.specs.declared.answer.State.{State}
use Rattle.sa_explore_model.specs.Search.{IsOver, IsNext, Ends}

module _ (processors : ℕ) (states : List State) (nexts : List ℕ) (marks : List Bool) where
  -- a state has an end, or a turn leads from it to a state that is marked
  abbrev pub IsNear : ℕ → Type 0
  IsNear k = IsOver processors states nexts k ⊎ ((next : IsNext processors states nexts k) × (slice_get marks next.to ≡ Some true))

  -- from each state that is marked turns lead to an end
  abbrev pub AreSound : Type 0
  AreSound = (k : ℕ) → slice_get marks k ≡ Some true → (n : ℕ) × Ends processors states nexts n k

  -- no state is left to mark
  abbrev pub AreAll : Type 0
  AreAll = (k : ℕ) → slice_get marks k ≡ Some false → IsNear k → ⊥
