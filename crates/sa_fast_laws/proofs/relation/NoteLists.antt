-- Lists of notices: with one more, with one that a test finds, and what is summed over them.
use Rattle.std.proofs.Common.{◌≡◌, ℕ, zero, suc, ◌+◌, ◌≤◌, ◌<◌, Bool, true, false, cond, ◌||◌, List, [], ◌∷◌, ◌++◌, length, sum_by, count_by, Contains, slice_index_or, refl, sym, ap, ◌∙◌, inl, inr, arith}
use Rattle.std.specs.Prelude.{if◌then◌else◌}
use Rattle.std.proofs.lemmas.Bool.{eqb-true}
use Rattle.std.proofs.lemmas.List.Elements.{Contains-append_cases}
use Rattle.std.proofs.lemmas.List.Sums.{sum_by-cons, sum_by-append}
use Rattle.std.specs.List.{list_any}
use Rattle.sa_base.specs.declared.number.ActNo.{ActNo}
use Rattle.sa_base.specs.declared.record.Note.{Note}
use Rattle.sa_base.specs.declared.record.Note.TheVariants.{Add, Preempted, Blocked, Unblocked}
use Rattle.sa_laws.specs.Readings.{Readings, life_of, untold_thread, stopped_thread}
use Rattle.sa_laws.specs.Record.{same_note}
use Rattle.sa_fast_laws.proofs.relation.Notices.{note_of}
use Rattle.std.proofs.Math.Bool.{or-false, or_assoc}

pub any-append : (p : Note → Bool) (xs : List Note) (n : Note) → list_any p (xs ++ n ∷ []) ≡ (list_any p xs || p n)
any-append p [] n = or-false (p n)
any-append p (x ∷ xs) n = ap (λ b. p x || b) (any-append p xs n) ∙ sym (or_assoc (p x) (list_any p xs) (p n))

pub count-append : (p : Note → Bool) (xs : List Note) (n : Note) → count_by p (xs ++ n ∷ []) ≡ count_by p xs + (if p n then 1 else 0)
count-append p xs n = sum_by-append (λ m. cond (p m) 1 0) xs (n ∷ [])
    ∙ (let one : 0 + cond (p n) 1 0 ≡ cond (p n) 1 0 = omega arith in ap (λ m. count_by p xs + m) one)

abbrev pub one_when : Bool → ℕ
one_when b = if b then 1 else 0

pub one_most : (b : Bool) → one_when b ≤ 1
one_most true = omega arith
one_most false = omega arith

pub or_most : (x y : Bool) → one_when (x || y) ≤ one_when x + one_when y
or_most true y = omega arith
or_most false y = omega arith

pub count-or : (p q : Note → Bool) (xs : List Note) → count_by (λ m. p m || q m) xs ≤ count_by p xs + count_by q xs
count-or p q [] = omega arith
count-or p q (x ∷ xs) =
    let rest = count-or p q xs in let here = or_most (p x) (q x) in
    let one = sum_by-cons (λ m. cond (p m) 1 0) x xs in let two = sum_by-cons (λ m. cond (q m) 1 0) x xs in
    let both = sum_by-cons (λ m. cond (p m || q m) 1 0) x xs in omega arith

pub none-counts : (p : Note → Bool) (xs : List Note) → list_any p xs ≡ false → count_by p xs ≡ 0
none-counts p [] none = refl
none-counts p (x ∷ xs) none = by (p x) refl (none-counts p xs) where
  by : (b : Bool) → p x ≡ b → (list_any p xs ≡ false → count_by p xs ≡ 0) → count_by p (x ∷ xs) ≡ 0
  by true at rest = absurd (let yes : (p x || list_any p xs) ≡ true = ap (λ b. b || list_any p xs) at in cc)
  by false at rest =
      let left : list_any p xs ≡ false = sym (ap (λ b. b || list_any p xs) at) ∙ none in
      let zero_is = rest left in
      sum_by-cons (λ m. cond (p m) 1 0) x xs ∙ ap (λ b. cond b 1 0 + count_by p xs) at ∙ (let sum : 0 + count_by p xs ≡ 0 = omega arith in sum)

-- a notice that some test finds is there
pub any-note : (kind : Bool) (a : ActNo) (ns : List Note) → list_any (same_note (note_of kind a)) ns ≡ true → Contains ns (note_of kind a)
any-note kind a [] e = absurd cc
any-note kind a (n ∷ ns) e = by (same_note (note_of kind a) n) refl (any-note kind a ns) where
  same_is : (k : Bool) (m : Note) → same_note (note_of k a) m ≡ true → m ≡ note_of k a
  same_is true (Add x) is = absurd cc
  same_is true (Preempted x) is = ap (λ j. Preempted (record { 0 = j })) (sym (eqb-true a.0 x.0 is))
  same_is true (Blocked x) is = absurd cc
  same_is true (Unblocked x) is = absurd cc
  same_is false (Add x) is = absurd cc
  same_is false (Preempted x) is = absurd cc
  same_is false (Blocked x) is = absurd cc
  same_is false (Unblocked x) is = ap (λ j. Unblocked (record { 0 = j })) (sym (eqb-true a.0 x.0 is))

  by : (b : Bool) → same_note (note_of kind a) n ≡ b → (list_any (same_note (note_of kind a)) ns ≡ true → Contains ns (note_of kind a))
      → Contains (n ∷ ns) (note_of kind a)
  by true is rest = (zero, omega arith, same_is kind n is)
  by false is rest = let more = rest (sym (ap (λ b. b || list_any (same_note (note_of kind a)) ns) is) ∙ e) in
      let inside = more.1 in (suc more.0, omega arith, more.2)

-- the sum over notices looks at lives with untold stops alone
pub notes-same : (r q : Readings) (ns : List Note)
    → ((b : ActNo) → Contains ns (Preempted b) → stopped_thread (life_of q b) ≡ stopped_thread (life_of r b))
    → sum_by (untold_thread q) ns ≡ sum_by (untold_thread r) ns
notes-same r q [] same = refl
notes-same r q (x ∷ ns) same =
    sum_by-cons (untold_thread q) x ns
    ∙ (let rest = notes-same r q ns (λ b has. same b (let inside = has.1 in (suc has.0, omega arith, has.2))) in
    let one = note_one x (λ b is. same b (zero, omega arith, is)) in let all = sum_by-cons (untold_thread r) x ns in omega arith) where
      note_one : (y : Note) → ((b : ActNo) → y ≡ Preempted b → stopped_thread (life_of q b) ≡ stopped_thread (life_of r b))
          → untold_thread q y ≡ untold_thread r y
      note_one (Add z) same = refl
      note_one (Preempted b) same = same b refl
      note_one (Blocked z) same = refl
      note_one (Unblocked z) same = refl

-- a notice that is not the last one stood there before
pub was-there : (ns : List Note) (note m : Note) → (m ≡ note → ⊥) → Contains (ns ++ note ∷ []) m → Contains ns m
was-there ns note m other has = elim (Contains-append_cases ns (note ∷ []) m has) [
  | inl old ↦ old
  | inr last ↦ absurd (other (sym (at_last last.0 last.1 last.2)))
] where
  at_last : (i : ℕ) → i < length (note ∷ []) → slice_index_or (note ∷ []) i m ≡ m → note ≡ m
  at_last zero inside at = at
  at_last (suc i) inside at = absurd (let one : length (note ∷ []) ≡ 1 = refl in omega arith)
