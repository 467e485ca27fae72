-- What a search round the lists finds.
use Rattle.std.proofs.Common.{◌≡◌, ℕ, zero, suc, ◌+◌, ◌-◌, ◌<◌, ◌≤◌, Bool, true, false, cond, length, find, Option, Some, None, refl, sym, ap, ◌∙◌, subst, inl, inr, arith}
use Rattle.std.specs.List.{range_with_len}
use Rattle.std.specs.Option.{option_or}
use Rattle.std.proofs.lemmas.Bool.{cases_eq, cases_lt, lt-ltb, le-ltb}
use Rattle.std.proofs.lemmas.Option.{same_Some}
use Rattle.std.proofs.lemmas.List.Folds.{find-append}
use Rattle.sa_lists.specs.ReadyView.{ReadyView, is_open, steps_round, sought}

-- q is the first number of those from a to below b that passes
record IsFirst (p : ℕ → Bool) (a b q : ℕ) : Type 0 where
  pub from : a ≤ q
  pub below : q < b
  pub passes : p q ≡ true
  pub before : (k : ℕ) → a ≤ k → k < q → p k ≡ false

find-first : (p : ℕ → Bool) (a n q : ℕ) → find p (range_with_len a n) ≡ Some q → IsFirst p a (a + n) q
find-first p a zero q e = absurd cc
find-first p a (suc n) q e = elim (p a) as (λ b. p a ≡ b → cond b (Some a) (find p (range_with_len (a + 1) n)) ≡ Some q → IsFirst p a (a + suc n) q) [
  | true ↦ λ here found. let same = same_Some a q found in record {
    from = omega arith;
    below = omega arith;
    passes = subst (λ k. p k ≡ true) same here;
    before = λ k low high. absurd (omega arith);
  }
  | false ↦ λ here found. let rest = find-first p (a + 1) n q found in record {
    from = omega arith;
    below = omega arith;
    passes = rest.passes;
    before = λ k low high. elim (cases_eq k a) [ inl e ↦ subst (λ j. p j ≡ false) (sym e) here | inr ne ↦ rest.before k (omega arith) high ];
  }
] refl e

find-none : (p : ℕ → Bool) (a n : ℕ) → find p (range_with_len a n) ≡ None → (k : ℕ) → a ≤ k → k < a + n → p k ≡ false
find-none p a zero e k low high = absurd (omega arith)
find-none p a (suc n) e k low high = elim (p a) as (λ b. p a ≡ b → cond b (Some a) (find p (range_with_len (a + 1) n)) ≡ None → p k ≡ false) [
  | true ↦ λ here found. absurd cc
  | false ↦ λ here found. elim (cases_eq k a) [
    | inl e ↦ subst (λ j. p j ≡ false) (sym e) here
    | inr ne ↦ find-none p (a + 1) n found k (omega arith) (omega arith)
  ]
] refl e

-- the steps to a number from p on, and to one before p
steps-from : (n p q : ℕ) → p ≤ q → steps_round n p q ≡ q - p
steps-from n p q h = ap (λ b. cond b (n - p + q) (q - p)) (le-ltb q p h)

steps-before : (n p q : ℕ) → q < p → steps_round n p q ≡ n - p + q
steps-before n p q h = ap (λ b. cond b (n - p + q) (q - p)) (lt-ltb q p h)

-- the list that `seek` names: it is open, and no list before it is, counted round
pub record IsSought (r : ReadyView) (p q : ℕ) : Type 0 where
  pub inside : q < length r.lists
  pub here : is_open r q ≡ true
  pub before : (k : ℕ) → k < length r.lists → steps_round (length r.lists) p k < steps_round (length r.lists) p q → is_open r k ≡ false

sought-is : (r : ReadyView) (p : ℕ) → sought r p ≡ option_or (find (is_open r) (range_with_len p (length r.lists - p))) (find (is_open r) (range_with_len 0 p))
sought-is r p = find-append (is_open r) (range_with_len p (length r.lists - p)) (range_with_len 0 p)

pub sought-first : (r : ReadyView) (p q : ℕ) → p < length r.lists → sought r p ≡ Some q → IsSought r p q
sought-first r p q inside e =
    let n = length r.lists in
    elim (find (is_open r) (range_with_len p (n - p))) as (λ (o : Option ℕ). find (is_open r) (range_with_len p (n - p)) ≡ o
    → option_or o (find (is_open r) (range_with_len 0 p)) ≡ Some q → IsSought r p q) [
      | Some x ↦ λ found same.
          let first = find-first (is_open r) p (n - p) q (found ∙ same) in
          let to = steps-from n p q first.from in
          record {
            inside = omega arith;
            here = first.passes;
            before = λ k below less. elim (cases_lt k p) [
              | inl low ↦ let at = steps-before n p k low in absurd (omega arith)
              | inr high ↦ let at = steps-from n p k high in first.before k high (omega arith)
            ];
          }
      | None ↦ λ none found.
          let first = find-first (is_open r) 0 p q found in
          let to = steps-before n p q (omega arith) in
          record {
            inside = omega arith;
            here = first.passes;
            before = λ k below less. elim (cases_lt k p) [
              | inl low ↦ let at = steps-before n p k low in first.before k (omega arith) (omega arith)
              | inr high ↦ find-none (is_open r) p (n - p) none k high (omega arith)
            ];
          }
    ] refl (sym (sought-is r p) ∙ e)

pub sought-none : (r : ReadyView) (p k : ℕ) → p < length r.lists → sought r p ≡ None → k < length r.lists → is_open r k ≡ false
sought-none r p k inside e below =
    let n = length r.lists in
    elim (find (is_open r) (range_with_len p (n - p))) as (λ (o : Option ℕ). find (is_open r) (range_with_len p (n - p)) ≡ o
    → option_or o (find (is_open r) (range_with_len 0 p)) ≡ None → is_open r k ≡ false) [
      | Some x ↦ λ found same. absurd cc
      | None ↦ λ none second. elim (cases_lt k p) [
        | inl low ↦ find-none (is_open r) 0 p second k (omega arith) (omega arith)
        | inr high ↦ find-none (is_open r) p (n - p) none k high (omega arith)
      ]
    ] refl (sym (sought-is r p) ∙ e)
