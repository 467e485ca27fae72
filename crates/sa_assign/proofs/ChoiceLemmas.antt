-- Which processor is chosen for a space that misses one.
use Rattle.std.proofs.Common.{◌≡◌, ℕ, zero, suc, ◌<◌, Bool, true, false, cond, List, length, Option, Some, None, refl, sym, ap, ◌∙◌, arith, ◌⊎◌, inl, inr, slice_index_or, IfSome}
use Rattle.std.specs.Option.{option_or}
use Rattle.std.proofs.lemmas.Bool.{cases_eq, cond-true, and_parts}
use Rattle.std.proofs.lemmas.Option.{none-some, same_Some}
use Rattle.sa_base.specs.declared.number.SpaceNo.{SpaceNo}
use Rattle.sa_assign.specs.Aims.{least_below, greatest_below, has_no_aim, can_be_spared, is_idle_and_spared, choice}

-- a number below n that passes
pub record PassesBelow (n : ℕ) (test : ℕ → Bool) (p : ℕ) : Type 0 where
  pub within : p < n
  pub passes : test p ≡ true

PassesBelow-more : (n : ℕ) (test : ℕ → Bool) (p : ℕ) → PassesBelow n test p → PassesBelow (suc n) test p
PassesBelow-more n test p found = let within = found.within in record { within = omega arith; passes = found.passes }

-- the last number that is looked at
PassesBelow-last : (n : ℕ) (test : ℕ → Bool) (p : ℕ) (b : Bool) → test n ≡ b → cond {A = Option ℕ} b (Some n) None ≡ Some p → PassesBelow (suc n) test p
PassesBelow-last n test p true is found =
    let same : n ≡ p = same_Some n p found in
    record { within = omega arith; passes = ap test (sym same) ∙ is }
PassesBelow-last n test p false is found = absurd (none-some p found)

pub least_below-passes : (n : ℕ) (test : ℕ → Bool) (p : ℕ) → least_below n test ≡ Some p → PassesBelow n test p
least_below-passes zero test p found = absurd (none-some p found)
least_below-passes (suc n) test p found = go (least_below n test) (least_below-passes n test p) found where
  go : (before : Option ℕ) → (before ≡ Some p → PassesBelow n test p) → option_or before (cond (test n) (Some n) None) ≡ Some p → PassesBelow (suc n) test p
  go None again e = PassesBelow-last n test p (test n) refl e
  go (Some q) again e = PassesBelow-more n test p (again e)

pub greatest_below-passes : (n : ℕ) (test : ℕ → Bool) (p : ℕ) → greatest_below n test ≡ Some p → PassesBelow n test p
greatest_below-passes zero test p found = absurd (none-some p found)
greatest_below-passes (suc n) test p found = go (test n) refl (greatest_below-passes n test p) found where
  go : (b : Bool) → test n ≡ b → (greatest_below n test ≡ Some p → PassesBelow n test p) → cond b (Some n) (greatest_below n test) ≡ Some p
      → PassesBelow (suc n) test p
  go true is again e = PassesBelow-last n test p true is e
  go false is again e = PassesBelow-more n test p (again e)

-- where none is found, none passes
pub least_below-none : (n : ℕ) (test : ℕ → Bool) → least_below n test ≡ None → (p : ℕ) → p < n → test p ≡ false
least_below-none zero test none p below = absurd (omega arith)
least_below-none (suc n) test none p below = go (least_below n test) (λ is. least_below-none n test is p) none where
  last : (b : Bool) → test n ≡ b → cond {A = Option ℕ} b (Some n) None ≡ None → test n ≡ false
  last true is e = absurd (none-some n (sym e))
  last false is e = is

  go : (before : Option ℕ) → (before ≡ None → p < n → test p ≡ false) → option_or before (cond (test n) (Some n) None) ≡ None → test p ≡ false
  go None again e = elim (cases_eq p n) [
    | inl same ↦ ap test same ∙ last (test n) refl e
    | inr other ↦ again refl (omega arith)
  ]
  go (Some q) again e = absurd (none-some q (sym e))

pub greatest_below-none : (n : ℕ) (test : ℕ → Bool) → greatest_below n test ≡ None → (p : ℕ) → p < n → test p ≡ false
greatest_below-none zero test none p below = absurd (omega arith)
greatest_below-none (suc n) test none p below = go (test n) refl (λ is. greatest_below-none n test is p) none where
  go : (b : Bool) → test n ≡ b → (greatest_below n test ≡ None → p < n → test p ≡ false) → cond b (Some n) (greatest_below n test) ≡ None → test p ≡ false
  go true is again e = absurd (none-some n (sym e))
  go false is again e = elim (cases_eq p n) [
    | inl same ↦ ap test same ∙ is
    | inr other ↦ again e (omega arith)
  ]

-- the first that passes is the least
pub least_below-found : (n : ℕ) (test : ℕ → Bool) (p : ℕ) → least_below p test ≡ None → test p ≡ true → p < n → least_below n test ≡ Some p
least_below-found zero test p none passes below = absurd (omega arith)
least_below-found (suc n) test p none passes below = elim (cases_eq p n) [
  | inl same ↦ ap (λ (k : ℕ). option_or (least_below k test) (cond (test k) (Some k) None)) (sym same)
      ∙ ap (λ before. option_or before (cond (test p) (Some p) None)) none ∙ cond-true (test p) (Some p) None passes
  | inr other ↦ ap (λ before. option_or before (cond (test n) (Some n) None)) (least_below-found n test p none passes (omega arith))
]

-- the first of two
option_or-cases : (a b : Option ℕ) (p : ℕ) → option_or a b ≡ Some p → (a ≡ Some p) ⊎ ((a ≡ None) × (b ≡ Some p))
option_or-cases None b p e = inr (refl, e)
option_or-cases (Some q) b p e = inl e

option_or-none : (a b : Option ℕ) → option_or a b ≡ None → (a ≡ None) × (b ≡ None)
option_or-none None b e = (refl, e)
option_or-none (Some q) b e = absurd (none-some q (sym e))

-- the chosen processor has no aim, or it is aimed at a space with more than its share
pub choice-passes : (shares : List ℕ) (marks : List Bool) (aims : List (Option SpaceNo)) (p : ℕ) → choice shares marks aims ≡ Some p
    → PassesBelow (length aims) (has_no_aim aims) p ⊎ PassesBelow (length aims) (can_be_spared shares aims) p
choice-passes shares marks aims p e =
    let n = length aims in
    let free = least_below n (has_no_aim aims) in
    let idle = least_below n (is_idle_and_spared shares marks aims) in
    let last = greatest_below n (can_be_spared shares aims) in
    elim (option_or-cases free (option_or idle last) p e) [
      | inl found ↦ inl (least_below-passes n (has_no_aim aims) p found)
      | inr others ↦ elim (option_or-cases idle last p others.1) [
        | inl found ↦
            let both = least_below-passes n (is_idle_and_spared shares marks aims) p found in
            inr (record { within = both.within; passes = (and_parts (slice_index_or marks p false) (can_be_spared shares aims p) both.passes).1 })
        | inr rest ↦ inr (greatest_below-passes n (can_be_spared shares aims) p rest.1)
      ]
    ]

-- where none is chosen, each is aimed, and at a space that has no more than its share
pub choice-none : (shares : List ℕ) (marks : List Bool) (aims : List (Option SpaceNo)) → choice shares marks aims ≡ None
    → (p : ℕ) → p < length aims → (has_no_aim aims p ≡ false) × (can_be_spared shares aims p ≡ false)
choice-none shares marks aims e p below =
    let n = length aims in
    let free = least_below n (has_no_aim aims) in
    let idle = least_below n (is_idle_and_spared shares marks aims) in
    let last = greatest_below n (can_be_spared shares aims) in
    let parts = option_or-none free (option_or idle last) e in
    let rest = option_or-none idle last parts.1 in
    (least_below-none n (has_no_aim aims) parts.0 p below, greatest_below-none n (can_be_spared shares aims) rest.1 p below)

-- what was found is below n
pub least_below-within : (n : ℕ) (test : ℕ → Bool) (found : Option ℕ) → found ≡ least_below n test → IfSome found (λ p. p < n)
least_below-within n test None e = tt
least_below-within n test (Some p) e = (least_below-passes n test p (sym e)).within

pub greatest_below-within : (n : ℕ) (test : ℕ → Bool) (found : Option ℕ) → found ≡ greatest_below n test → IfSome found (λ p. p < n)
greatest_below-within n test None e = tt
greatest_below-within n test (Some p) e = (greatest_below-passes n test p (sym e)).within
