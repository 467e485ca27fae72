-- A set of ranks in words of 64 bits.
use Rattle.std.specs.Prelude.{◌≡◌, ℕ, ◌<◌, ◌/◌, ◌%◌, Bool, true, false, ◌==◌, if◌then◌else◌, List, Option, Some, None, slice_index}
use Rattle.std.specs.Int.{bit_at}
use Rattle.sa_lists.specs.declared.ranks.TheConstants.{MAX_RANKS}

-- rank k is in the set
abbrev pub has : List ℕ → ℕ → Bool
has words k = bit_at (slice_index words (k / 64)) (k % 64) == 1

-- a rank is put into the set or taken out, and no other
abbrev pub HasPut : List ℕ → ℕ → Bool → List ℕ → Type 0
HasPut old rank is_in new = (k : ℕ) → has new k ≡ (if k == rank then is_in else has old k)

-- the greatest rank of the set, and the least, if it has some
abbrev pub IsGreatest : List ℕ → Option ℕ → Type 0
IsGreatest words None = (k : ℕ) → has words k ≡ false
IsGreatest words (Some g) = (g < MAX_RANKS) × (has words g ≡ true) × ((k : ℕ) → g < k → has words k ≡ false)

abbrev pub IsLeast : List ℕ → Option ℕ → Type 0
IsLeast words None = (k : ℕ) → has words k ≡ false
IsLeast words (Some m) = (m < MAX_RANKS) × (has words m ≡ true) × ((k : ℕ) → k < m → has words k ≡ false)
