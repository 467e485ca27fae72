-- The I/Os under way, without their numbers.
use Rattle.std.proofs.Common.{◌≡◌, ℕ, zero, suc, ◌+◌, Option, Some, None, List, [], ◌∷◌, ◌++◌, map, take, get_or, refl, ap, ◌∙◌, add-one}
use Rattle.sa_devices.specs.declared.under_way.Entry.{Entry}
use Rattle.sa_devices.specs.Kept.{listed, entry_of}

-- the I/Os in these places
abbrev pub entries : List (Option Entry) → List Entry
entries [] = []
entries (None ∷ places) = entries places
entries (Some e ∷ places) = e ∷ entries places

pub entries-listed : (first : ℕ) (places : List (Option Entry)) → map entry_of (listed first places) ≡ entries places
entries-listed first [] = refl
entries-listed first (None ∷ places) = entries-listed (first + 1) places
entries-listed first (Some e ∷ places) = ap (λ z. e ∷ z) (entries-listed (first + 1) places)

entries-suc : (places : List (Option Entry)) (i : ℕ) → entries (take (suc i) places) ≡ entries (take i places) ++ entries (get_or places i None ∷ [])
entries-suc [] zero = refl
entries-suc [] (suc i) = refl
entries-suc (None ∷ places) zero = refl
entries-suc (Some e ∷ places) zero = refl
entries-suc (None ∷ places) (suc i) = entries-suc places i
entries-suc (Some e ∷ places) (suc i) = ap (λ z. e ∷ z) (entries-suc places i)

-- the I/Os in the first places, and in one more
pub entries-more : (places : List (Option Entry)) (i : ℕ) (p : Option Entry) → get_or places i None ≡ p
    → entries (take (i + 1) places) ≡ entries (take i places) ++ entries (p ∷ [])
entries-more places i p at =
    ap (λ n. entries (take n places)) (add-one i) ∙ entries-suc places i ∙ ap (λ q. entries (take i places) ++ entries (q ∷ [])) at
