-- Which space gets the next processor.
use Rattle.std.specs.Prelude.{◌≡◌, ◌≢◌, ℕ, ◌<◌, ◌⊎◌, List, Option, MatchOption}
use Rattle.sa_share.specs.declared.Claim.{Claim}
use Rattle.sa_share.specs.Share.{priority_at, share_at, rank_of, WantsMore}

-- s is served before t: by its higher priority, then by its smaller share, then by its lower rank
abbrev pub IsBefore : ℕ → List Claim → List ℕ → ℕ → ℕ → Type 0
IsBefore first claims shares s t =
    (priority_at claims t < priority_at claims s)
    ⊎ ((priority_at claims s ≡ priority_at claims t)
    × ((share_at shares s < share_at shares t)
    ⊎ ((share_at shares s ≡ share_at shares t) × (rank_of first claims s < rank_of first claims t))))

-- s is served before the space that was chosen, if one was
abbrev pub GoesFirst : ℕ → List Claim → List ℕ → ℕ → Option ℕ → Type 0
GoesFirst first claims shares s chosen = MatchOption chosen (Unit {0}) (IsBefore first claims shares s)

-- of the spaces below n that want more, s is served before each other
pub record IsNext (n first : ℕ) (claims : List Claim) (shares : List ℕ) (s : ℕ) : Type 0 where
  pub within : s < n
  pub wants : WantsMore claims shares s
  pub before : (t : ℕ) → t < n → t ≢ s → WantsMore claims shares t → IsBefore first claims shares s t
