-- The threads that join one.
use Rattle.std.proofs.Common.{◌≡◌, ℕ, ◌<◌, ◌≤◌, [], ◌∷◌, length, drop, Some, arith}
use Rattle.std.proofs.lemmas.List.{get_or-set_same}
use Rattle.sa_base.specs.declared.limits.TheConstants.{MAX_THREADS}
use Rattle.sa_links.specs.Lists.{count_in}
use Rattle.sa_lemmas.proofs.ListReads.{first-rest}
use Rattle.sa_links.proofs.Counting.{count_at, few_below}
use Rattle.sa_sync.specs.Sync.{Sync, joiners_at, waits_of, WaitsOnce}
use Rattle.sa_sync.specs.Calls.{first_joiner, without_joiner}
use Rattle.sa_sync.proofs.LawLemmas.{waits_parts}

-- no more join one than there can be
pub few_joiners : (s : Sync) (t : ℕ) → WaitsOnce s → length (joiners_at s t) ≤ MAX_THREADS
few_joiners s t once =
    let part : (u : ℕ) → count_in u (joiners_at s t) ≤ waits_of s u = λ u. omega (arith, count_at u s.joiners t, waits_parts s u) in
    few_below MAX_THREADS (joiners_at s t) (λ u. omega (arith, part u, once.once u)) (λ u some. once.threads u (omega (arith, part u, some)))

-- the first of them, and the others
pub queue : (s : Sync) (t u : ℕ) → first_joiner s t ≡ Some u → joiners_at s t ≡ u ∷ drop 1 (joiners_at s t)
queue s t u first = first-rest (joiners_at s t) u first

pub rest_joins : (s : Sync) (t : ℕ) → t < length s.joiners → joiners_at (without_joiner s t) t ≡ drop 1 (joiners_at s t)
rest_joins s t inside = get_or-set_same s.joiners t (drop 1 (joiners_at s t)) [] inside
