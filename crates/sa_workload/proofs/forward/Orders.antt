-- The order of lines of one word.
use Rattle.std.proofs.Common.{◌≡◌, ℕ, ◌<◌, ◌⊎◌, ◌&&◌, ◌||◌, Bool, true, false, cond, List, [], ◌∷◌, length, Option, Some, None, refl, sym, ap, ap₂, ◌∙◌, inl, inr, arith, ltb, eqb, lt-ltb, eq-eqb, ltb-true, eqb-true, subst}
use Rattle.std.specs.Str.{bytes_eq}
use Rattle.std.proofs.lemmas.Bool.{false≢true, false_from_ne_true, cases_lt, cases_eq, and_parts, or_cases}
use Rattle.std.proofs.lemmas.Slice.Eq.{bytes_eq-Decides}
use Rattle.std.proofs.Math.Bool.{or-true}
use Rattle.sa_spaces.specs.declared.workload.Evict.{Evict}
use Rattle.sa_spaces.specs.Workload.{IsBefore}
use Rattle.sa_workload.specs.Bad.{list_lt}
use Rattle.sa_workload.specs.Fields.{order_cause}
use Rattle.sa_workload.specs.Next.{evict_numbers}

-- what one list before another says of their heads
pub before_heads : (x y : ℕ) (xs ys : List ℕ) → list_lt (x ∷ xs) (y ∷ ys) ≡ true → (x < y) ⊎ ((x ≡ y) × (list_lt xs ys ≡ true))
before_heads x y xs ys h = pick (or_cases (ltb x y) (eqb x y && list_lt xs ys) h)
  where
    pick : (ltb x y ≡ true) ⊎ ((eqb x y && list_lt xs ys) ≡ true) → (x < y) ⊎ ((x ≡ y) × (list_lt xs ys ≡ true))
    pick (inl a) = inl (ltb-true x y a)
    pick (inr b) = let c = and_parts (eqb x y) (list_lt xs ys) b in inr (eqb-true x y c.0, c.1)

pub list_lt-asym : (xs ys : List ℕ) → list_lt xs ys ≡ true → list_lt ys xs ≡ true → ⊥
list_lt-asym [] [] h k = absurd (cc h)
list_lt-asym [] (y ∷ ys) h k = absurd (cc h)
list_lt-asym (x ∷ xs) [] h k = absurd (cc h)
list_lt-asym (x ∷ xs) (y ∷ ys) h k = pick (before_heads x y xs ys h) (before_heads y x ys xs k) (list_lt-asym xs ys)
  where
    pick : (x < y) ⊎ ((x ≡ y) × (list_lt xs ys ≡ true)) → (y < x) ⊎ ((y ≡ x) × (list_lt ys xs ≡ true))
        → (list_lt xs ys ≡ true → list_lt ys xs ≡ true → ⊥) → ⊥
    pick (inl a) (inl b) rest = absurd (omega arith)
    pick (inl a) (inr b) rest = absurd (omega (arith, b.0))
    pick (inr a) (inl b) rest = absurd (omega (arith, a.0))
    pick (inr a) (inr b) rest = rest a.1 b.1

pub list_lt-irrefl : (xs ys : List ℕ) → xs ≡ ys → list_lt xs ys ≡ true → ⊥
list_lt-irrefl xs ys e h = list_lt-asym xs ys h (subst (λ (zs : List ℕ). list_lt zs xs ≡ true) e (subst (λ (zs : List ℕ). list_lt xs zs ≡ true) (sym e) h))

pub less_head : (x y : ℕ) (xs ys : List ℕ) → x < y → list_lt (x ∷ xs) (y ∷ ys) ≡ true
less_head x y xs ys h = ap (λ (b : Bool). b || (eqb x y && list_lt xs ys)) (lt-ltb x y h)

pub same_head : (x y : ℕ) (xs ys : List ℕ) → x ≡ y → list_lt xs ys ≡ true → list_lt (x ∷ xs) (y ∷ ys) ≡ true
same_head x y xs ys e h =
    ap (λ (b : Bool). ltb x y || (b && list_lt xs ys)) (eq-eqb x y e) ∙ ap (λ (b : Bool). ltb x y || b) h ∙ or-true (ltb x y)

-- of two lists one is before the other, or they are the same
pub cases_list_lt : (xs ys : List ℕ) → length xs ≡ length ys → (list_lt xs ys ≡ true) ⊎ ((xs ≡ ys) ⊎ (list_lt ys xs ≡ true))
cases_list_lt [] [] e = inr (inl refl)
cases_list_lt [] (y ∷ ys) e = absurd (omega arith)
cases_list_lt (x ∷ xs) [] e = absurd (omega arith)
cases_list_lt (x ∷ xs) (y ∷ ys) e =
    elim (cases_lt x y) [
      | inl less ↦ inl (less_head x y xs ys less)
      | inr more ↦ elim (cases_eq x y) [
        | inr other ↦ inr (inr (less_head y x ys xs (omega arith)))
        | inl same ↦ elim (cases_list_lt xs ys (omega arith)) [
          | inl before ↦ inl (same_head x y xs ys same before)
          | inr behind ↦ elim behind [
            | inl equal ↦ inr (inl (ap (λ (z : ℕ). z ∷ xs) same ∙ ap (λ (zs : List ℕ). y ∷ zs) equal))
            | inr later ↦ inr (inr (same_head y x ys xs (sym same) later))
          ]
        ]
      ]
    ]

none_is : (same less : Bool) → cond {A = Option ℕ} same (Some 5) (cond less (Some 4) None) ≡ None → (same ≡ false) × (less ≡ false)
none_is true less h = absurd (cc h)
none_is false true h = absurd (cc h)
none_is false false h = (refl, refl)

pub order-none : (last ns : List ℕ) → length ns ≡ length last → order_cause (Some last) ns ≡ None → list_lt last ns ≡ true
order-none last ns long h =
    let n = none_is (bytes_eq ns last) (list_lt ns last) h in
    elim (cases_list_lt ns last long) [
      | inl before ↦ absurd (false≢true (sym n.1 ∙ before))
      | inr behind ↦ elim behind [ inl equal ↦ absurd (false≢true (sym n.0 ∙ (bytes_eq-Decides ns last).1 equal)) | inr later ↦ later ]
    ]

pub none-order : (last ns : List ℕ) → list_lt last ns ≡ true → order_cause (Some last) ns ≡ None
none-order last ns h =
    ap₂ (λ (same less : Bool). cond {A = Option ℕ} same (Some 5) (cond less (Some 4) None))
    (false_from_ne_true (bytes_eq ns last) (λ t. list_lt-irrefl last ns (sym ((bytes_eq-Decides ns last).0 t)) h))
    (false_from_ne_true (list_lt ns last) (list_lt-asym last ns h))

-- evictions by their numbers
pub evict_before : (a b : Evict) → list_lt (evict_numbers a) (evict_numbers b) ≡ true → IsBefore a b
evict_before a b h =
    elim (before_heads a.event b.event (a.space.0 ∷ a.page ∷ []) (b.space.0 ∷ b.page ∷ []) h) [
      | inl less ↦ inl less
      | inr same ↦ elim (before_heads a.space.0 b.space.0 (a.page ∷ []) (b.page ∷ []) same.1) [
        | inl less ↦ inr (same.0, inl less)
        | inr alike ↦ elim (before_heads a.page b.page [] [] alike.1) [
          | inl less ↦ inr (same.0, inr (alike.0, less))
          | inr none ↦ absurd (cc (none.1))
        ]
      ]
    ]

pub before_evict : (a b : Evict) → IsBefore a b → list_lt (evict_numbers a) (evict_numbers b) ≡ true
before_evict a b (inl less) = less_head a.event b.event (a.space.0 ∷ a.page ∷ []) (b.space.0 ∷ b.page ∷ []) less
before_evict a b (inr (same, rest)) =
    same_head a.event b.event (a.space.0 ∷ a.page ∷ []) (b.space.0 ∷ b.page ∷ []) same
    (elim rest [
      | inl less ↦ less_head a.space.0 b.space.0 (a.page ∷ []) (b.page ∷ []) less
      | inr alike ↦ same_head a.space.0 b.space.0 (a.page ∷ []) (b.page ∷ []) alike.0 (less_head a.page b.page [] [] alike.1)
    ])
