-- A list that is made longer one by one.
use Rattle.std.proofs.Common.{◌≡◌, ℕ, ◌+◌, ◌-◌, ◌<◌, List, [], ◌∷◌, ◌++◌, length, Option, None, zero, suc, refl, sym, ap, ◌∙◌, append_assoc, length-append, arith}
use Rattle.std.specs.Prelude.{replicate}

-- one more in place of the first of those that are still to come
onto : {X : Type 0} (xs : List (Option X)) (k n : ℕ) → n ≡ suc k
    → (xs ++ None ∷ []) ++ replicate k None ≡ xs ++ replicate n None
onto xs k n is = append_assoc xs (None ∷ []) (replicate k None) ∙ ap (λ c. xs ++ replicate c None) (sym is)

pub pad-more : {X : Type 0} (xs : List (Option X)) (n : ℕ) → length xs < n
    → (xs ++ None ∷ []) ++ replicate (n - length (xs ++ None ∷ [])) None ≡ xs ++ replicate (n - length xs) None
pad-more xs n few =
    let len = length-append xs (None ∷ []) in
    onto xs (n - length (xs ++ None ∷ [])) (n - length xs) (omega (arith, len))
