-- The ready threads of spaces by their ranks: of each rank those that have it, in the order of their ready records.
use Rattle.std.specs.Prelude.{◌≡◌, ◌≢◌, ℕ, ◌+◌, ◌-◌, ◌^◌, ◌<◌, ◌≤◌, ◌⊎◌, ◌==◌, nat_lt, Bool, false, not, if◌then◌else◌, List, [], ◌∷◌, length, take, filter, Option, Some, None, slice_get, slice_index_or}
use Rattle.sa_base.specs.declared.number.SpaceNo.{SpaceNo}
use Rattle.sa_base.specs.declared.number.ThreadNo.{ThreadNo}

-- of one space, and of all
abbrev pub row_stack : List (List ThreadNo) → ℕ → List ThreadNo
row_stack row k = slice_index_or row k []

abbrev pub row_at : List (List (List ThreadNo)) → SpaceNo → List (List ThreadNo)
row_at v s = slice_index_or v s.0 []

abbrev pub stack_at : List (List (List ThreadNo)) → SpaceNo → ℕ → List ThreadNo
stack_at v s k = row_stack (row_at v s) k

-- at the opening thread 0 is ready, of rank 0
abbrev pub opening_row : List (List ThreadNo)
opening_row = (record { 0 = 0 } ∷ []) ∷ []

-- the newest of some threads
abbrev pub newest : List ThreadNo → Option ThreadNo
newest xs = slice_get xs (length xs - 1)

-- threads without one: the last, where it is that
abbrev pub is_other : ThreadNo → ThreadNo → Bool
is_other t u = not (u.0 == t.0)

abbrev pub is_newest : ThreadNo → Option ThreadNo → Bool
is_newest t None = false
is_newest t (Some u) = u.0 == t.0

abbrev pub without : ThreadNo → List ThreadNo → List ThreadNo
without t xs = if is_newest t (newest xs) then take (length xs - 1) xs else filter (is_other t) xs

-- of one rank these are the threads now, and of the others those that were
pub record HasPut (old : List (List ThreadNo)) (rank : ℕ) (xs : List ThreadNo) (new : List (List ThreadNo)) : Type 0 where
  pub here : row_stack new rank ≡ xs
  pub others : (k : ℕ) → k ≢ rank → row_stack new k ≡ row_stack old k

-- the same in one of the spaces, if it is there
pub record HasStack (old : List (List (List ThreadNo))) (s : SpaceNo) (rank : ℕ) (xs : List ThreadNo) (new : List (List (List ThreadNo))) : Type 0 where
  pub count : length new ≡ length old
  pub here : s.0 < length old → stack_at new s rank ≡ xs
  pub others : (m : SpaceNo) (k : ℕ) → (m.0 ≢ s.0) ⊎ (k ≢ rank) → stack_at new m k ≡ stack_at old m k

-- one more than the greatest rank that has a thread, and 0 where none has
pub record IsTop (row : List (List ThreadNo)) (top : ℕ) : Type 0 where
  pub within : top ≤ length row
  pub few : top ≤ 2 ^ 16
  pub above : (k : ℕ) → top ≤ k → row_stack row k ≡ []
  pub some : (k : ℕ) → top ≡ k + 1 → row_stack row k ≢ []

-- the greatest rank that has a thread
pub record IsGreatest (row : List (List ThreadNo)) (rank : ℕ) : Type 0 where
  pub some : row_stack row rank ≢ []
  pub above : (k : ℕ) → rank < k → row_stack row k ≡ []

abbrev pub HasNone : List (List ThreadNo) → Type 0
HasNone row = (k : ℕ) → row_stack row k ≡ []

abbrev pub IsBest : List (List ThreadNo) → Option ℕ → Type 0
IsBest row None = HasNone row
IsBest row (Some rank) = IsGreatest row rank

-- a rank is below that of the best ready thread, if there is one
abbrev pub is_below : ℕ → Option ℕ → Bool
is_below rank None = false
is_below rank (Some best) = nat_lt rank best
