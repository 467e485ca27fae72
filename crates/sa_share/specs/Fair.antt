-- What follows from shares for those who use the policy.
use Rattle.std.specs.Prelude.{◌≡◌, ℕ, ◌+◌, ◌<◌, ◌≤◌, ◌⊎◌, List, length, sum}
use Rattle.sa_share.specs.declared.Claim.{Claim}
use Rattle.sa_share.specs.Share.{priority_at, want_at, share_at, WantsMore}

-- every processor is given, or every want is met
abbrev pub IsSpent : ℕ → List Claim → List ℕ → Type 0
IsSpent processors claims shares =
    (sum shares ≡ processors) ⊎ ((s : ℕ) → share_at shares s ≡ want_at claims s)

-- a space with less than it wants leaves every space of lower priority with nothing
abbrev pub ServesHigherFirst : List Claim → List ℕ → Type 0
ServesHigherFirst claims shares =
    (s t : ℕ) → WantsMore claims shares s → priority_at claims t < priority_at claims s → share_at shares t ≡ 0

-- two spaces of one priority that both have less than they want differ by at most one
abbrev pub IsEven : List Claim → List ℕ → Type 0
IsEven claims shares =
    (s t : ℕ) → priority_at claims s ≡ priority_at claims t
    → WantsMore claims shares s → WantsMore claims shares t
    → (share_at shares s ≤ share_at shares t + 1) × (share_at shares t ≤ share_at shares s + 1)

-- some claims have fallen, and none below the share of its space
pub record IsLowered (claims lower : List Claim) (shares : List ℕ) : Type 0 where
  pub spaces : length lower ≡ length claims
  pub priority : (s : ℕ) → priority_at lower s ≡ priority_at claims s
  pub fallen : (s : ℕ) → want_at lower s ≤ want_at claims s
  pub covered : (s : ℕ) → share_at shares s ≤ want_at lower s
