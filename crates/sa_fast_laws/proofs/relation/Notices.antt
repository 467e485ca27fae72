-- Lists of notices without one that was told.
use Rattle.std.proofs.Common.{◌≡◌, ◌≢◌, ℕ, zero, suc, ◌+◌, ◌≤◌, ◌<◌, Bool, true, false, cond, not, ◌||◌, ◌&&◌, List, [], ◌∷◌, filter, length, sum_by, count_by, Contains, slice_index_or, refl, sym, ap, ◌∙◌, subst, arith}
use Rattle.std.specs.Prelude.{if◌then◌else◌}
use Rattle.std.proofs.lemmas.Bool.{eq-eqb, ne_eqb, eqb-true as eqb-is}
use Rattle.std.proofs.lemmas.List.Sums.{sum_by-cons}
use Rattle.std.specs.List.{list_any}
use Rattle.sa_base.specs.declared.number.ActNo.{ActNo}
use Rattle.sa_base.specs.declared.record.Note.{Note}
use Rattle.sa_base.specs.declared.record.Note.TheVariants.{Add, Preempted, Blocked, Unblocked}
use Rattle.sa_laws.specs.Record.{same_note, is_other_note}
use Rattle.sa_fast_laws.specs.FastFits.{is_of}

-- what passes stays
any_if : {A : Type 0} (p : A → Bool) (x : A) (ys : List A) (c : Bool) → list_any p (if c then x ∷ ys else ys) ≡ ((c && p x) || list_any p ys)
any_if p x ys true = refl
any_if p x ys false = refl

both_is : (px qx : Bool) → (px ≡ true → qx ≡ true) → (qx && px) ≡ px
both_is true qx pass = ap (λ b. b && true) (pass refl)
both_is false true pass = refl
both_is false false pass = refl

pub any-filter : {A : Type 0} (p q : A → Bool) (xs : List A) → ((x : A) → p x ≡ true → q x ≡ true) → list_any p (filter q xs) ≡ list_any p xs
any-filter p q [] pass = refl
any-filter p q (x ∷ xs) pass =
    any_if p x (filter q xs) (q x) ∙ ap (λ b. b || list_any p (filter q xs)) (both_is (p x) (q x) (pass x))
    ∙ ap (λ b. p x || b) (any-filter p q xs pass)

-- a list without those that pass a test
module _ {A : Type 0} (p : A → Bool) where
  abbrev one_when : Bool → ℕ
  one_when b = if b then 1 else 0

  pub count-is : (x : A) (xs : List A) (b : Bool) → p x ≡ b → count_by p (x ∷ xs) ≡ one_when b + count_by p xs
  count-is x xs b e = sum_by-cons (λ y. one_when (p y)) x xs ∙ ap (λ c. one_when c + count_by p xs) e

  filter-is : (x : A) (xs : List A) (b : Bool) → p x ≡ b
      → filter (λ z. not (p z)) (x ∷ xs) ≡ (if not b then x ∷ filter (λ z. not (p z)) xs else filter (λ z. not (p z)) xs)
  filter-is x xs b e = ap (λ c. if not c then x ∷ filter (λ z. not (p z)) xs else filter (λ z. not (p z)) xs) e

  pub none-passes : (xs : List A) → count_by p xs ≡ 0 → filter (λ z. not (p z)) xs ≡ xs
  none-passes [] none = refl
  none-passes (x ∷ xs) none = elim (p x) as (λ b. p x ≡ b → filter (λ z. not (p z)) (x ∷ xs) ≡ x ∷ xs) [
    | true ↦ λ e. absurd (let c = count-is x xs true e in omega arith)
    | false ↦ λ e. filter-is x xs false e ∙ ap (λ ys. x ∷ ys) (none-passes xs (let c = count-is x xs false e in omega arith))
  ] refl

  pub sum-without : (f : A → ℕ) (v : ℕ) (xs : List A) → ((x : A) → p x ≡ true → f x ≡ v) → count_by p xs ≡ 1
      → sum_by f (filter (λ z. not (p z)) xs) + v ≡ sum_by f xs
  sum-without f v [] same once = absurd (let none : count_by p [] ≡ 0 = refl in omega arith)
  sum-without f v (x ∷ xs) same once = elim (p x) as (λ b. p x ≡ b → sum_by f (filter (λ z. not (p z)) (x ∷ xs)) + v ≡ sum_by f (x ∷ xs)) [
    | true ↦ λ e.
        let c = count-is x xs true e in
        let left : sum_by f (filter (λ z. not (p z)) (x ∷ xs)) ≡ sum_by f xs = ap (sum_by f) (filter-is x xs true e ∙ none-passes xs (omega arith)) in
        let all = sum_by-cons f x xs in let is = same x e in omega arith
    | false ↦ λ e.
        let c = count-is x xs false e in
        let left : sum_by f (filter (λ z. not (p z)) (x ∷ xs)) ≡ f x + sum_by f (filter (λ z. not (p z)) xs) = ap (sum_by f) (filter-is x xs false e)
        ∙ sum_by-cons f x (filter (λ z. not (p z)) xs) in
        let all = sum_by-cons f x xs in let rest = sum-without f v xs same (omega arith) in omega arith
  ] refl

  pub count-drop : (q : A → Bool) (xs : List A) → ((x : A) → p x ≡ true → q x ≡ true) → count_by p xs ≡ 1
      → count_by q (filter (λ z. not (p z)) xs) + 1 ≡ count_by q xs
  count-drop q xs wider once = sum-without (λ x. cond (q x) 1 0) 1 xs (λ x e. ap (λ b. cond b 1 0) (wider x e)) once

  -- a count of others does not rise
  pub count-without : (q : A → Bool) (xs : List A) → count_by q (filter (λ z. not (p z)) xs) ≤ count_by q xs
  count-without q [] = omega arith
  count-without q (x ∷ xs) = elim (p x) as (λ b. p x ≡ b → count_by q (filter (λ z. not (p z)) (x ∷ xs)) ≤ count_by q (x ∷ xs)) [
    | true ↦ λ e. let less = count-without q xs in let left = ap (count_by q) (filter-is x xs true e) in
        let all = sum_by-cons (λ y. one_when (q y)) x xs in omega arith
    | false ↦ λ e.
        let less = count-without q xs in let left = ap (count_by q) (filter-is x xs false e) in
        let all = sum_by-cons (λ y. one_when (q y)) x xs in let rest = sum_by-cons (λ y. one_when (q y)) x (filter (λ z. not (p z)) xs) in omega arith
  ] refl

  -- what passes and is contained counts
  pub count-contained : (x : A) (xs : List A) → Contains xs x → p x ≡ true → 1 ≤ count_by p xs
  count-contained x [] has is = absurd (let none : length {A = A} [] ≡ 0 = refl in let inside = has.1 in omega arith)
  count-contained x (y ∷ xs) has is = by has.0 has.1 has.2 (λ more. count-contained x xs more is) where
    by : (k : ℕ) → k < length (y ∷ xs) → slice_index_or (y ∷ xs) k x ≡ x → (Contains xs x → 1 ≤ count_by p xs) → 1 ≤ count_by p (y ∷ xs)
    by zero inside at rest = let c = count-is y xs true (ap p at ∙ is) in omega arith
    by (suc k) inside at rest = let more = rest (k, omega arith, at) in let all = sum_by-cons (λ z. one_when (p z)) y xs in omega arith

  -- what is contained without them was contained, and fails
  pub contained-fails : (x : A) (xs : List A) → Contains (filter (λ z. not (p z)) xs) x → Contains xs x × (p x ≡ false)
  contained-fails x [] has = absurd (let none : length {A = A} [] ≡ 0 = refl in let inside = has.1 in omega arith)
  contained-fails x (y ∷ xs) has = elim (p y) as (λ b. p y ≡ b → Contains (y ∷ xs) x × (p x ≡ false)) [
    | true ↦ λ e. let rest = contained-fails x xs (subst (λ ys. Contains ys x) (filter-is y xs true e) has) in (behind rest.0, rest.1)
    | false ↦ λ e. let here =
        subst (λ ys. Contains ys x) (filter-is y xs false e) has in by here.0 here.1 here.2 e (λ more. contained-fails x xs more)
  ] refl where
    behind : Contains xs x → Contains (y ∷ xs) x
    behind h = let inside = h.1 in (suc h.0, omega arith, h.2)

    by : (k : ℕ) → k < length (y ∷ filter (λ z. not (p z)) xs) → slice_index_or (y ∷ filter (λ z. not (p z)) xs) k x ≡ x → p y ≡ false
        → (Contains (filter (λ z. not (p z)) xs) x → Contains xs x × (p x ≡ false)) → Contains (y ∷ xs) x × (p x ≡ false)
    by zero inside at e rest = ((zero, omega arith, at), ap p (sym at) ∙ e)
    by (suc k) inside at e rest = let more = rest (k, omega arith, at) in (behind more.0, more.1)

  -- a wider test counts no less
  pub count-wider : (q : A → Bool) (xs : List A) → ((x : A) → p x ≡ true → q x ≡ true) → count_by p xs ≤ count_by q xs
  count-wider q [] wider = omega arith
  count-wider q (x ∷ xs) wider = elim (p x) as (λ b. p x ≡ b → count_by p (x ∷ xs) ≤ count_by q (x ∷ xs)) [
    | true ↦ λ e.
        let rest = count-wider q xs wider in let c = count-is x xs true e in let all = sum_by-cons (λ y. one_when (q y)) x xs in
        let one : one_when (q x) ≡ 1 = ap one_when (wider x e) in omega arith
    | false ↦ λ e. let rest = count-wider q xs wider in let c = count-is x xs false e in let all = sum_by-cons (λ y. one_when (q y)) x xs in
        omega arith
  ] refl

-- NOTICES of the stop (true) or the unblock (false) of a life
abbrev pub note_of : Bool → ActNo → Note
note_of true a = Preempted a
note_of false a = Unblocked a

pub same-self : (kind : Bool) (a : ActNo) → same_note (note_of kind a) (note_of kind a) ≡ true
same-self true a = eq-eqb a.0 a.0 refl
same-self false a = eq-eqb a.0 a.0 refl

pub of-self : (kind : Bool) (a : ActNo) → is_of a (note_of kind a) ≡ true
of-self true a = ap (λ b. b || false) (eq-eqb a.0 a.0 refl)
of-self false a = eq-eqb a.0 a.0 refl

-- a notice that is told, as `is_other_note` asks it
abbrev pub tells : Note → Note → Bool
tells n m = same_note m n

pub of-wider : (kind : Bool) (a : ActNo) (m : Note) → tells (note_of kind a) m ≡ true → is_of a m ≡ true
of-wider true a (Preempted b) is = ap (λ c. c || false) (eq-eqb a.0 b.0 (sym (eqb-is b.0 a.0 is)))
of-wider false a (Unblocked b) is = eq-eqb a.0 b.0 (sym (eqb-is b.0 a.0 is))
of-wider _ a _ is = absurd cc

-- what is of another life stays
pub other-passes : (kind : Bool) (b : ActNo) (of : Bool) (x : ActNo) → x.0 ≢ b.0 → (m : Note) → same_note (note_of of x) m ≡ true
    → is_other_note (note_of kind b) m ≡ true
other-passes kind b of x ne (Add q) is = absurd (no of is) where
  no : (of : Bool) → same_note (note_of of x) (Add q) ≡ true → ⊥
  no true is = cc
  no false is = cc
other-passes kind b of x ne (Blocked y) is = absurd (no of is) where
  no : (of : Bool) → same_note (note_of of x) (Blocked y) ≡ true → ⊥
  no true is = cc
  no false is = cc
other-passes true b true x ne (Preempted y) is = ap not (ne_eqb y.0 b.0 (λ e. ne (eqb-is x.0 y.0 is ∙ e)))
other-passes true b false x ne (Preempted y) is = absurd cc
other-passes false b true x ne (Unblocked y) is = absurd cc
other-passes false b false x ne (Unblocked y) is = ap not (ne_eqb y.0 b.0 (λ e. ne (eqb-is x.0 y.0 is ∙ e)))
other-passes _ b _ x ne _ is = refl

pub any-count : {A : Type 0} (p : A → Bool) (xs : List A) → list_any p xs ≡ true → 1 ≤ count_by p xs
any-count p [] is = absurd cc
any-count p (x ∷ xs) is = elim (p x) as (λ b. p x ≡ b → 1 ≤ count_by p (x ∷ xs)) [
  | true ↦ λ e. let c = count-is p x xs true e in omega arith
  | false ↦ λ e. let rest = any-count p xs (sym (ap (λ b. b || list_any p xs) e) ∙ is) in let c = count-is p x xs false e in omega arith
] refl

stop-passes : (b : ActNo) (m : Note) → same_note (Preempted b) m ≡ true → is_other_note (Unblocked b) m ≡ true
stop-passes b (Preempted y) is = refl
stop-passes b _ is = absurd cc

-- one notice was told: none of its life is left
module _ (kind : Bool) (b : ActNo) (ns : List Note) (there : Contains ns (note_of kind b)) (single : count_by (is_of b) ns ≤ 1) where
  pub told-once : count_by (tells (note_of kind b)) ns ≡ 1
  told-once =
      let some = count-contained (tells (note_of kind b)) (note_of kind b) ns there (same-self kind b) in
      let less = count-wider (tells (note_of kind b)) (is_of b) ns (of-wider kind b) in omega arith

  pub told-none : count_by (is_of b) (filter (is_other_note (note_of kind b)) ns) ≡ 0
  told-none =
      let drop = count-drop (tells (note_of kind b)) (is_of b) ns (of-wider kind b) told-once in
      let all : count_by (is_of b) (filter (is_other_note (note_of kind b)) ns) ≡ 0 = omega arith in all

  pub back-alone : kind ≡ false → list_any (same_note (Preempted b)) ns ≡ false
  back-alone back = by (list_any (same_note (Preempted b)) ns) refl where
    by : (c : Bool) → list_any (same_note (Preempted b)) ns ≡ c → list_any (same_note (Preempted b)) ns ≡ false
    by false e = e
    by true e = absurd (
        let none : count_by (is_of b) (filter (is_other_note (Unblocked b)) ns) ≡ 0 =
        ap (λ z. count_by (is_of b) (filter (is_other_note (note_of z b)) ns)) (sym back) ∙ told-none in
        let some =
        any-count (same_note (Preempted b)) (filter (is_other_note (Unblocked b)) ns)
        (any-filter (same_note (Preempted b)) (is_other_note (Unblocked b)) ns (stop-passes b) ∙ e) in
        let less =
        count-wider (same_note (Preempted b)) (is_of b) (filter (is_other_note (Unblocked b)) ns) (λ m is. ap (λ z. z || same_note (Unblocked b) m) is) in
        omega arith)
