-- Lists that were changed at one place, and tests that choose.
use Rattle.std.proofs.Common.{◌≡◌, ◌≢◌, ℕ, ◌<◌, inl, inr, refl, sym, ◌∙◌, ap, arith, Some, None, List, [], ◌∷◌, length, map, true, false}
use Rattle.std.specs.Prelude.{Option, Bool, ◌==◌, if◌then◌else◌, get_or, slice_set, unwrap_or, filter}
use Rattle.std.proofs.lemmas.Bool.{cases_eq, cases_lt, eq-eqb, ne_eqb}
use Rattle.std.proofs.lemmas.List.{get_or-set_same, get_or-set_other}
use Rattle.sa_promises.proofs.words.Ends.{if-no, if-yes}
use Rattle.sa_promises.proofs.words.Reads.{set-said}

-- a function may be taken out of a choice
pub if-out : {A B : Type 0} (f : A → B) (b : Bool) (x y : A) → f (if b then x else y) ≡ (if b then f x else f y)
if-out f true x y = refl
if-out f false x y = refl

-- nothing is said either way
pub none-said : {A : Type 0} (b : Bool) (y : A) → unwrap_or (if b then None else None) y ≡ y
none-said true y = refl
none-said false y = refl

-- A list was set at one place; a place after the list is read as one whose item is absent.
pub set-absent : {A : Type 0} (xs : List (Option A)) (p q : ℕ) (v : Option A) → p < length xs
    → get_or (slice_set xs p v) q None ≡ unwrap_or (if p == q then Some v else None) (get_or xs q None)
set-absent xs p q v within = elim (cases_lt q (length xs)) [
  | inl below ↦ set-said xs p q v None below
  | inr past ↦ (
      let other : q ≢ p = λ e. absurd (omega arith) in
      get_or-set_other xs p q v None other
      ∙ sym (ap (λ b. unwrap_or (if b then Some v else None) (get_or xs q None)) (ne_eqb p q (λ e. other (sym e))))
      )
]

-- a list of lists, one of which is changed
pub set-list : {A : Type 0} (f : List A → List A) (xs : List (List A)) (i j : ℕ) → j < length xs
    → get_or (slice_set xs i (f (get_or xs i []))) j [] ≡ (if i == j then f (get_or xs j []) else get_or xs j [])
set-list f xs i j within = elim (cases_eq i j) [
  | inl same ↦
      ap (λ n. get_or (slice_set xs n (f (get_or xs n []))) j []) same ∙ get_or-set_same xs j (f (get_or xs j [])) [] within
      ∙ sym (if-yes (i == j) (f (get_or xs j [])) (get_or xs j []) (eq-eqb i j same))
  | inr apart ↦
      get_or-set_other xs i j (f (get_or xs i [])) [] (λ e. apart (sym e)) ∙ sym (if-no (i == j) (f (get_or xs j [])) (get_or xs j []) (ne_eqb i j apart))
]

-- what is left of what was made
pub map-filter : {A B : Type 0} (f : A → B) (test : B → Bool) (xs : List A) → map f (filter (λ x. test (f x)) xs) ≡ filter test (map f xs)
map-filter f test [] = refl
map-filter f test (x ∷ xs) =
    if-out (map f) (test (f x)) (x ∷ filter (λ y. test (f y)) xs) (filter (λ y. test (f y)) xs)
    ∙ ap (λ ys. if test (f x) then f x ∷ ys else ys) (map-filter f test xs)
