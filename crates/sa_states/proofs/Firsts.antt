-- The first place at which a test passes.
use Rattle.std.proofs.Common.{◌≡◌, ℕ, zero, suc, ◌+◌, ◌<◌, ◌≤◌, Bool, true, false, Option, Some, None, List, [], ◌∷◌, get_or, position, slice_get, inl, inr, refl, sym, ap, ◌∙◌}
use Rattle.std.specs.List.{position_from}
use Rattle.std.proofs.lemmas.Iterator.Adapters.{position_from-zero}
use Rattle.std.proofs.lemmas.Option.{get_or_from_slice_get, slice_get-get_or, same_Some}
use Rattle.std.proofs.lemmas.List.Quantifiers.{position-Some}
use Rattle.std.proofs.lemmas.Bool.{cases_lt}
use Rattle.std.specs.Prelude.{◌⊎◌}
use Rattle.sa_base.specs.declared.record.End.{End}
use Rattle.sa_base.specs.declared.record.End.TheVariants.{AllDone, Stuck, Budget}
use Rattle.sa_explore_model.specs.Answer.{is_end}

-- no place before it passes
pub first-passes : {A : Type 0} (test : A → Bool) (xs : List A) (k : ℕ) (d : A) → position test xs ≡ Some k
    → (j : ℕ) (x : A) → slice_get xs j ≡ Some x → test x ≡ true → k ≤ j
first-passes test xs k d is j x at passes = go (cases_lt j k)
  where
    go : (j < k) ⊎ (k ≤ j) → k ≤ j
    go (inl less) =
        let none : test (get_or xs j d) ≡ false = (position-Some test xs k d is).2 j less in
        let same : get_or xs j d ≡ x = get_or_from_slice_get xs j x d at in
        absurd (let no : test x ≡ false = ap test (sym same) ∙ none in let yes : true ≡ false = sym passes ∙ no in cc)
    go (inr more) = more

-- the place itself
pub first-at : {A : Type 0} (test : A → Bool) (xs : List A) (k : ℕ) (d : A) → position test xs ≡ Some k
    → (slice_get xs k ≡ Some (get_or xs k d)) × (test (get_or xs k d) ≡ true)
first-at test xs k d is = let at = position-Some test xs k d is in (slice_get-get_or xs k d at.0, at.1)

-- an end is this one just where the test says so
pub is-end : (e : End) (o : Option End) → is_end e o ≡ true → o ≡ Some e
is-end AllDone None h = absurd cc
is-end Stuck None h = absurd cc
is-end Budget None h = absurd cc
is-end AllDone (Some AllDone) h = refl
is-end AllDone (Some Stuck) h = absurd cc
is-end AllDone (Some Budget) h = absurd cc
is-end Stuck (Some AllDone) h = absurd cc
is-end Stuck (Some Stuck) h = refl
is-end Stuck (Some Budget) h = absurd cc
is-end Budget (Some AllDone) h = absurd cc
is-end Budget (Some Stuck) h = absurd cc
is-end Budget (Some Budget) h = refl

pub end-is : (e : End) (o : Option End) → o ≡ Some e → is_end e o ≡ true
end-is AllDone o is = ap (is_end AllDone) is
end-is Stuck o is = ap (is_end Stuck) is
end-is Budget o is = ap (is_end Budget) is

none-from : {A : Type 0} (test : A → Bool) (i : ℕ) (xs : List A) → position_from test i xs ≡ None → (j : ℕ) (x : A) → slice_get xs j ≡ Some x
    → test x ≡ true → ⊥
none-from test i [] none j x at passes = cc
none-from test i (y ∷ ys) none zero x at passes =
    let here : test y ≡ true = ap test (same_Some y x at) ∙ passes in
    let found : Some i ≡ None = rw here at none in
    cc
none-from test i (y ∷ ys) none (suc j) x at passes = go (test y) refl (λ rest. none-from test (i + 1) ys rest j x at passes)
  where
    go : (b : Bool) → test y ≡ b → (position_from test (i + 1) ys ≡ None → ⊥) → ⊥
    go true is rest = let found : Some i ≡ None = rw is at none in cc
    go false is rest = rest (rw is at none)

-- no place passes
pub none-passes : {A : Type 0} (test : A → Bool) (xs : List A) → position test xs ≡ None → (j : ℕ) (x : A) → slice_get xs j ≡ Some x → test x ≡ true → ⊥
none-passes test xs none j x at passes = none-from test 0 xs (sym (position_from-zero test xs) ∙ none) j x at passes
