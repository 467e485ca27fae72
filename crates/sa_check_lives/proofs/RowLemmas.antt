-- Rows of items.
use Rattle.std.proofs.Common.{◌≡◌, ℕ, zero, suc, ◌<◌, ◌-◌, refl, ◌∙◌, ap, arith, inl, inr, List, [], ◌∷◌, ◌++◌, length, take, drop, map}
use Rattle.std.specs.Prelude.{slice_set, slice_index_or}
use Rattle.std.proofs.lemmas.Bool.{cases_lt}
use Rattle.std.proofs.lemmas.List.{length-append, get_or-set_same, set-set, set-get_or, set_past}
use Rattle.sa_base.specs.declared.number.SpaceNo.{SpaceNo}
use Rattle.sa_check_lives.specs.Rows.{row_at, front_of, without_last, with_item}

module _ {A : Type 0} where
  take-length : (xs ys : List A) → take (length xs) (xs ++ ys) ≡ xs
  take-length [] ys = refl
  take-length (x ∷ xs) ys = ap (λ zs. x ∷ zs) (take-length xs ys)

  length-one_more : (xs : List A) (x : A) → length (xs ++ x ∷ []) - 1 ≡ length xs
  length-one_more xs x = omega (arith, length-append xs (x ∷ []))

  front-push : (xs : List A) (x : A) → front_of (xs ++ x ∷ []) ≡ xs
  front-push xs x = ap (λ n. take n (xs ++ x ∷ [])) (length-one_more xs x) ∙ take-length xs (x ∷ [])

  -- an item that was put in last is taken out again
  pub undone : (before : List (List A)) (s : SpaceNo) (item : A) → without_last (with_item before s item) s ≡ before
  undone before s item = elim (cases_lt s.0 (length before)) [
    | inl within ↦
        ap (λ row. slice_set (with_item before s item) s.0 (front_of row)) (get_or-set_same before s.0 (row_at before s ++ item ∷ []) [] within)
        ∙ ap (λ row. slice_set (with_item before s item) s.0 row) (front-push (row_at before s) item)
        ∙ set-set before s.0 (row_at before s ++ item ∷ []) (row_at before s)
        ∙ set-get_or before s.0 []
    | inr past ↦
        ap (λ rows. without_last rows s) (set_past before s.0 (row_at before s ++ item ∷ []) past)
        ∙ set_past before s.0 (front_of (row_at before s)) past
  ]

-- rows that are changed one by one
pub changed-more : {A : Type 0} (f : A → A) (xs : List A) (i : ℕ) (d : A) → i < length xs
    → slice_set (map f (take i xs) ++ drop i xs) i (f (slice_index_or (map f (take i xs) ++ drop i xs) i d)) ≡ map f (take (suc i) xs) ++ drop (suc i) xs
changed-more f [] i d within = absurd (omega arith)
changed-more f (x ∷ xs) zero d within = refl
changed-more f (x ∷ xs) (suc i) d within = ap (λ ys. f x ∷ ys) (changed-more f xs i d (omega arith))
