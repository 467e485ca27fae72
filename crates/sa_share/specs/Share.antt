-- How many processors each space gets.
use Rattle.std.specs.Prelude.{◌≡◌, ℕ, ◌+◌, ◌-◌, ◌%◌, ◌<◌, ◌≤◌, min, max, List, length, sum, sum_by, slice_index, slice_index_or}
use Rattle.sa_share.specs.declared.Claim.{Claim}

-- the claim of a space; past the claims a space wants nothing
abbrev pub claim_at : List Claim → ℕ → Claim
claim_at claims s = slice_index_or claims s (record { priority = 0; want = 0 })

-- the priority that a space has
abbrev pub priority_at : List Claim → ℕ → ℕ
priority_at claims s = (claim_at claims s).priority

-- how many processors a space wants
abbrev pub want_at : List Claim → ℕ → ℕ
want_at claims s = (claim_at claims s).want

-- how many processors a space gets
abbrev pub share_at : List ℕ → ℕ → ℕ
share_at shares s = slice_index shares s

-- a space has less than it wants
abbrev pub WantsMore : List Claim → List ℕ → ℕ → Type 0
WantsMore claims shares s = share_at shares s < want_at claims s

-- how many processors the spaces want together
abbrev pub total_want : List Claim → ℕ
total_want claims = sum_by (λ (claim : Claim). claim.want) claims

-- how many spaces come before a space, counted round from the first
abbrev pub rank_of : ℕ → List Claim → ℕ → ℕ
rank_of first claims s = (s + length claims - first) % length claims

-- the first space is one of the claims, or 0 where there are none
abbrev pub IsFirst : ℕ → List Claim → Type 0
IsFirst first claims = first < max 1 (length claims)

-- these are the shares of the claims in that many processors, where the space `first` has rank 0
pub record IsShare (processors first : ℕ) (claims : List Claim) (shares : List ℕ) : Type 0 where
  -- no space gets more than it wants
  pub within : (s : ℕ) → share_at shares s ≤ want_at claims s
  -- as many processors are given as there are, or as are wanted
  pub total : sum shares ≡ min processors (total_want claims)
  -- a space gets something only where every space of higher priority has its whole want
  pub higher : (s t : ℕ) → priority_at claims s < priority_at claims t → 0 < share_at shares s
      → share_at shares t ≡ want_at claims t
  -- a space with less than it wants gets at most one less than any other of its priority
  pub level : (s t : ℕ) → priority_at claims s ≡ priority_at claims t → WantsMore claims shares s
      → share_at shares t ≤ share_at shares s + 1
  -- it gets one less only than those of lower rank
  pub earlier : (s t : ℕ) → priority_at claims s ≡ priority_at claims t → WantsMore claims shares s
      → share_at shares t ≡ share_at shares s + 1 → rank_of first claims t < rank_of first claims s
