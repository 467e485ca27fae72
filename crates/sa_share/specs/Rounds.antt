-- The shares as a function: the processors are given one after another.
use Rattle.std.specs.Prelude.{ℕ, zero, suc, ◌+◌, ◌==◌, nat_lt, Bool, true, ◌&&◌, ◌||◌, if◌then◌else◌, List, length, replicate, Option, None, Some, slice_set}
use Rattle.sa_share.specs.declared.Claim.{Claim}
use Rattle.sa_base.specs.declared.limits.TheConstants.{MAX_SPACES}
use Rattle.sa_share.specs.Share.{priority_at, want_at, share_at, rank_of}

-- s is served before t: by its higher priority, then by its smaller share, then by its lower rank
abbrev pub is_before : ℕ → List Claim → List ℕ → ℕ → ℕ → Bool
is_before first claims shares s t =
    nat_lt (priority_at claims t) (priority_at claims s)
    || (priority_at claims s == priority_at claims t
    && (nat_lt (share_at shares s) (share_at shares t)
    || (share_at shares s == share_at shares t
    && nat_lt (rank_of first claims s) (rank_of first claims t))))

-- s is served before the space that was chosen, if one was
abbrev pub goes_first : ℕ → List Claim → List ℕ → ℕ → Option ℕ → Bool
goes_first first claims shares s None = true
goes_first first claims shares s (Some t) = is_before first claims shares s t

-- the space that gets the next processor, of those below n; none where none of them wants more
abbrev pub next_below : ℕ → ℕ → List Claim → List ℕ → Option ℕ
next_below zero first claims shares = None
next_below (suc n) first claims shares =
    let chosen = next_below n first claims shares in
    if nat_lt (share_at shares n) (want_at claims n) && goes_first first claims shares n chosen then Some n else chosen

-- the shares after one more processor is given, if a space gets it
abbrev pub with_one_more : List ℕ → Option ℕ → List ℕ
with_one_more shares None = shares
with_one_more shares (Some s) = slice_set shares s (share_at shares s + 1)

-- the shares of the claims in that many processors: one place for each space that there can be
abbrev pub shares_of : ℕ → ℕ → List Claim → List ℕ
shares_of zero first claims = replicate MAX_SPACES 0
shares_of (suc processors) first claims =
    let shares = shares_of processors first claims in
    with_one_more shares (next_below (length claims) first claims shares)
