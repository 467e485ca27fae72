-- The results of a search: the states with an end, by what the runs that end there left. Bytes say what was left.
use Rattle.std.specs.Prelude.{◌≡◌, ℕ, ◌+◌, ◌<◌, ◌≤◌, ◌⊎◌, Bool, false, List, [], ◌∷◌, ◌++◌, take, count_by, Option, Some, None, slice_get, slice_set}
use Rattle.std.specs.Str.{bytes_eq}
use Rattle.sa_base.specs.declared.number.ProcNo.{ProcNo}
use Rattle.sa_explore_model.specs.Order.{ComesFirst}

-- the states of one result: its bytes, the first of them, and how many there are
pub record Grouped : Type 0 where
  pub key : List ℕ
  pub first : ℕ
  pub states : ℕ

-- one more state with these bytes is counted: it is of a result that is there, or the first of a new one
pub record IsOneMore (key : List ℕ) (old new : List Grouped) : Type 0 where
  pub place : ℕ
  pub group : Grouped
  pub is : slice_get old place ≡ Some group
  pub same : group.key ≡ key
  pub after : new ≡ slice_set old place (record group { states = group.states + 1 })

pub record IsFirstOfIts (key : List ℕ) (at : ℕ) (old new : List Grouped) : Type 0 where
  pub absent : (i : ℕ) (g : Grouped) → slice_get old i ≡ Some g → g.key ≡ key → ⊥
  pub after : new ≡ old ++ record { key = key; first = at; states = 1 } ∷ []

abbrev pub Counts : List ℕ → ℕ → List Grouped → List Grouped → Type 0
Counts key at old new = IsOneMore key old new ⊎ IsFirstOfIts key at old new

-- bytes that may be there are these
abbrev pub is_key : List ℕ → Option (List ℕ) → Bool
is_key key None = false
is_key key (Some other) = bytes_eq key other

-- the first n states by their bytes, in the order of the first of each
pub record AreGroups (keys : List (Option (List ℕ))) (n : ℕ) (groups : List Grouped) : Type 0 where
  pub within : (i : ℕ) (g : Grouped) → slice_get groups i ≡ Some g → g.first < n
  pub is : (i : ℕ) (g : Grouped) → slice_get groups i ≡ Some g → slice_get keys g.first ≡ Some (Some g.key)
  pub least : (i : ℕ) (g : Grouped) (k : ℕ) → slice_get groups i ≡ Some g → slice_get keys k ≡ Some (Some g.key) → g.first ≤ k
  pub count : (i : ℕ) (g : Grouped) → slice_get groups i ≡ Some g → g.states ≡ count_by (is_key g.key) (take n keys)
  pub every : (k : ℕ) (key : List ℕ) → k < n → slice_get keys k ≡ Some (Some key) → (i : ℕ) × (g : Grouped) × (slice_get groups i ≡ Some g) × (g.key ≡ key)
  pub different : (i j : ℕ) (g h : Grouped) → slice_get groups i ≡ Some g → slice_get groups j ≡ Some h → g.key ≡ h.key → i ≡ j
  pub rise : (i j : ℕ) (g h : Grouped) → i < j → slice_get groups i ≡ Some g → slice_get groups j ≡ Some h → g.first < h.first

-- `result m` is what runs that end at m left, none where they go on; `code` is its bytes
abbrev pub is_result : {R : Type 0} → (R → List ℕ) → R → Option R → Bool
is_result code r None = false
is_result code r (Some other) = bytes_eq (code r) (code other)

module _ {M R : Type 0} (Way : List ProcNo → M → Type 0) (result : M → Option R) (code : R → List ℕ) where
  -- SOUND. A schedule, after the turns `begun`, leads to a machine with this result.
  pub record LeadsToResult (begun : List ProcNo) (r : R) (schedule : List ProcNo) : Type 0 where
    pub turns : List ProcNo
    pub is : schedule ≡ begun ++ turns
    pub machine : M
    pub way : Way turns machine
    pub gives : result machine ≡ Some r

  -- LEAST. No run with this result is shorter, and of those of its length none comes before it in order of processors.
  abbrev pub IsLeastOf : List ProcNo → R → List ProcNo → Type 0
  IsLeastOf begun r schedule = (turns : List ProcNo) (m : M) → Way turns m → result m ≡ Some r → ComesFirst schedule (begun ++ turns)

  -- a result as it is told: its schedule, and how many of the machines kept have it
  pub record IsResult (begun : List ProcNo) (kept : List M) (r : R) (schedule : List ProcNo) (states : ℕ) : Type 0 where
    pub sound : LeadsToResult begun r schedule
    pub least : IsLeastOf begun r schedule
    pub count : states ≡ count_by (λ m. is_result code r (result m)) kept
