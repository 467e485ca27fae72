-- Giving the processors in rounds, one to each space that is served.
use Rattle.std.specs.Prelude.{◌≡◌, ℕ, ◌<◌, ◌≤◌, List, length}
use Rattle.sa_share.specs.declared.Claim.{Claim}
use Rattle.sa_share.specs.Share.{priority_at, want_at, share_at, WantsMore}

-- each space has its whole want
abbrev pub AreMet : List Claim → List ℕ → Type 0
AreMet claims shares = (s : ℕ) → share_at shares s ≡ want_at claims s

-- spaces of one priority that want more have equal shares
abbrev pub IsLevel : List Claim → List ℕ → Type 0
IsLevel claims shares =
    (s t : ℕ) → priority_at claims s ≡ priority_at claims t
    → WantsMore claims shares s → WantsMore claims shares t → share_at shares s ≡ share_at shares t

-- this is the priority of a space that wants more, and no space of higher priority does
pub record IsHighest (claims : List Claim) (shares : List ℕ) (priority : ℕ) : Type 0 where
  pub some : (s : ℕ) × (s < length claims) × (priority_at claims s ≡ priority) × WantsMore claims shares s
  pub most : (s : ℕ) → WantsMore claims shares s → priority_at claims s ≤ priority
