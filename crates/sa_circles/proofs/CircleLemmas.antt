-- A circle of threads, thread by thread.
use Rattle.std.proofs.Common.{◌≡◌, ℕ, zero, suc, ◌<◌, ◌≤◌, ◌==◌, nat_lt, if◌then◌else◌, List, [], ◌∷◌, ◌++◌, sym, ◌∙◌, ap, Option, Some, None, refl, true, false, append_assoc, arith}
use Rattle.std.proofs.lemmas.List.{append-nil}
use Rattle.std.proofs.lemmas.Bool.{eq-eqb, ne_eqb, cond-true, cond-false}
use Rattle.std.proofs.lemmas.Bool.Decides.{nat_tests}
use Rattle.std.specs.Option.{option_map}
use Rattle.sa_circles.specs.Circles.{rest_by, rest_from}

-- a rest of a circle, with these threads before it
abbrev pub with_front : List ℕ → Option (List ℕ) → Option (List ℕ)
with_front front rest = option_map (λ us. front ++ us) rest

pub with-none : (rest : Option (List ℕ)) → with_front [] rest ≡ rest
with-none None = refl
with-none (Some us) = refl

one-more : (front : List ℕ) (u : ℕ) (rest : Option (List ℕ)) → with_front front (option_map (λ us. u ∷ us) rest) ≡ with_front (front ++ (u ∷ [])) rest
one-more front u None = refl
one-more front u (Some us) = ap Some (sym (append_assoc front (u ∷ []) us))

-- what the thread that comes next makes of it
step : (next : ℕ → Option ℕ) (home t n : ℕ) (u : Option ℕ) → next t ≡ u → rest_from next home t (suc n) ≡ rest_by home u (λ v. rest_from next home v n)
unfolding rest_from
step next home t n u is = ap (λ o. rest_by home o (λ v. rest_from next home v n)) is

-- it is that of the beginning, none, one below the beginning, or another
pub comes-home : (next : ℕ → Option ℕ) (home t n u : ℕ) (front : List ℕ) → next t ≡ Some u → u ≡ home
    → with_front front (rest_from next home t (suc n)) ≡ Some front
comes-home next home t n u front is same =
    ap (with_front front) (step next home t n (Some u) is
    ∙ cond-true (u == home) (Some []) (if nat_lt u home then None else option_map (λ us. u ∷ us) (rest_from next home u n)) (eq-eqb u home same))
    ∙ ap Some (append-nil front)

pub ends-there : (next : ℕ → Option ℕ) (home t n : ℕ) (front : List ℕ) → next t ≡ None → with_front front (rest_from next home t (suc n)) ≡ None
ends-there next home t n front is = ap (with_front front) (step next home t n None is)

other : (next : ℕ → Option ℕ) (home t n u : ℕ) → next t ≡ Some u → (u ≡ home → ⊥)
    → rest_from next home t (suc n) ≡ (if nat_lt u home then None else option_map (λ us. u ∷ us) (rest_from next home u n))
other next home t n u is apart =
    step next home t n (Some u) is
    ∙ cond-false (u == home) (Some []) (if nat_lt u home then None else option_map (λ us. u ∷ us) (rest_from next home u n)) (ne_eqb u home apart)

pub falls-below : (next : ℕ → Option ℕ) (home t n u : ℕ) (front : List ℕ) → next t ≡ Some u → (u ≡ home → ⊥) → u < home
    → with_front front (rest_from next home t (suc n)) ≡ None
falls-below next home t n u front is apart low =
    let is_low : nat_lt u home ≡ true = grind (arith, nat_tests) in
    ap (with_front front) (other next home t n u is apart
    ∙ cond-true (nat_lt u home) None (option_map (λ us. u ∷ us) (rest_from next home u n)) is_low)

pub goes-on : (next : ℕ → Option ℕ) (home t n u : ℕ) (front : List ℕ) → next t ≡ Some u → (u ≡ home → ⊥) → home ≤ u
    → with_front front (rest_from next home t (suc n)) ≡ with_front (front ++ (u ∷ [])) (rest_from next home u n)
goes-on next home t n u front is apart high =
    let not_low : nat_lt u home ≡ false = grind (arith, nat_tests) in
    ap (with_front front) (other next home t n u is apart
    ∙ cond-false (nat_lt u home) None (option_map (λ us. u ∷ us) (rest_from next home u n)) not_low)
    ∙ one-more front u (rest_from next home u n)
