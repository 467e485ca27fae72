-- The places of words lie within their line.
use Rattle.std.proofs.Common.{◌≡◌, ℕ, ◌+◌, ◌-◌, ◌<◌, ◌≤◌, Bool, true, false, cond, List, [], ◌∷◌, ◌++◌, length, get_or, take, Option, Some, None, refl, sym, subst, arith}
use Rattle.std.specs.Prelude.{IfSome, slice_get, slice_range, nat_le, ◌==◌, ◌&&◌, zero, suc}
use Rattle.std.specs.List.{All, fold, enumerate_from}
use Rattle.std.proofs.lemmas.List.Edits.{length-between}
use Rattle.std.proofs.lemmas.List.Elements.{All-append, All-cons, All-nil, All-head, All-tail, All-take, All-get_or}
use Rattle.toga_lines.specs.declared.words.Place.{Place}
use Rattle.toga_lines.specs.Words.{is_blank, joined, places_of, with_byte, word_at, word_from}

abbrev Within : ℕ → Place → Type 0
Within n p = (p.from ≤ n) × (p.to ≤ n)

got : (n : ℕ) (ps : List Place) (i : ℕ) → All (Within n) ps → IfSome (slice_get ps i) (Within n)
got n [] i h = tt
got n (p ∷ ps) zero h = All-head (Within n) p ps h
got n (p ∷ ps) (suc i) h = got n ps i (All-tail (Within n) p ps h)

within-joined : (n k : ℕ) (o : Option Place) → k < n → IfSome o (Within n) → All (Within n) (joined o k)
within-joined n k None h w = All-cons (Within n) (word_from k) [] (omega arith, omega arith) (All-nil (Within n))
within-joined n k (Some p) h w =
    by_test (p.to == k) (w.0, omega arith) w
  where
    by_test : (b : Bool) → Within n (record p { to = k + 1 }) → Within n p
        → All (Within n) (cond b (record p { to = k + 1 } ∷ []) (p ∷ word_from k ∷ []))
    by_test true longer same = All-cons (Within n) (record p { to = k + 1 }) [] longer (All-nil (Within n))
    by_test false longer same =
        All-cons (Within n) p (word_from k ∷ []) same
        (All-cons (Within n) (word_from k) [] (omega arith, omega arith) (All-nil (Within n)))

within-byte : (n : ℕ) (ps : List Place) (k byte : ℕ) → k < n → All (Within n) ps → All (Within n) (with_byte ps k byte)
within-byte n ps k byte h all = by_test (is_blank byte)
  where
    by_test : (b : Bool)
        → All (Within n) (cond b ps (take (length ps - 1) ps ++ joined (slice_get ps (length ps - 1)) k))
    by_test true = all
    by_test false =
        All-append (Within n) (take (length ps - 1) ps) (joined (slice_get ps (length ps - 1)) k) (All-take (Within n) (length ps - 1) ps all)
        (within-joined n k (slice_get ps (length ps - 1)) h (got n ps (length ps - 1) all))

within-all : (n k : ℕ) (bs : List ℕ) (ps : List Place) → k + length bs ≤ n → All (Within n) ps
    → All (Within n) (fold (λ places b. with_byte places b.0 b.1) ps (enumerate_from k bs))
within-all n k [] ps h all = all
within-all n k (b ∷ bs) ps h all =
    within-all n (k + 1) bs (with_byte ps k b) (omega arith) (within-byte n ps k b (omega arith) all)

pub places-within : (bs : List ℕ) → All (Within (length bs)) (places_of bs)
places-within bs = within-all (length bs) 0 bs [] (omega arith) (All-nil (Within (length bs)))

length-word : (bs : List ℕ) (p : Place) → (p.from ≤ length bs) × (p.to ≤ length bs) → p.from + length (word_at bs p) ≤ length bs
length-word bs p h = by_test (nat_le p.from p.to && nat_le p.to (length bs)) (λ e. omega (arith, length-between bs p.from p.to h.1, le-from-both p.from p.to (length bs) e))
  where
    le-from-both : (m n k : ℕ) → nat_le m n && nat_le n k ≡ true → m ≤ n
    le-from-both m n k e = grind arith

    by_test : (b : Bool) → (b ≡ true → p.from + length (slice_range bs p.from p.to) ≤ length bs)
        → p.from + length (cond b (slice_range bs p.from p.to) []) ≤ length bs
    by_test true go = go refl
    by_test false go = omega (arith, h.0)

-- where a word of a line ends
pub word-within : (bs : List ℕ) (places : List Place) (i : ℕ) (d : Place) → places ≡ places_of bs → i < length places
    → (get_or places i d).from + length (word_at bs (get_or places i d)) ≤ length bs
word-within bs places i d e h =
    length-word bs (get_or places i d) (All-get_or (Within (length bs)) places i d h (subst (All (Within (length bs))) (sym e) (places-within bs)))
