-- What a call that failed says: the count of faults rose, and what a sink took is a prefix of the piece.
use Rattle.std.specs.Prelude.{ℕ, ◌+◌, ◌-◌, ◌^◌, ◌≤◌, min, List, take, Option}
use Rattle.std.specs.Io.KnownBytes.{Appends}

-- one more, for a count that stays at its greatest value
abbrev pub count_up : ℕ → ℕ
count_up count = min (count + 1) (2 ^ 64 - 1)

-- a count of faults, which stays at its greatest value, has risen
abbrev pub HasRisen : ℕ → ℕ → Type 0
HasRisen before now = count_up before ≤ now

-- known bytes grow by a prefix of the piece
abbrev pub AppendsPrefix : Option (List ℕ) → Option (List ℕ) → List ℕ → Type 0
AppendsPrefix old new piece = (n : ℕ) × Appends old new (take n piece)
