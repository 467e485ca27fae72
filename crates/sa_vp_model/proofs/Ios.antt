-- I/Os under way: the one that is due is found by its number, and is the only one of its virtual processor.
use Rattle.std.proofs.Common.{◌≡◌, ℕ, ◌+◌, ◌≤◌, Bool, true, false, cond, eqb, not, List, [], ◌∷◌, ◌++◌, filter, Some, inl, inr, ◌⊎◌, refl, sym, ap, ◌∙◌, arith}
use Rattle.std.specs.Prelude.{find, count_by, nat_le}
use Rattle.std.proofs.lemmas.Bool.{cases_eq, ne_eqb, eq-eqb}
use Rattle.std.proofs.lemmas.Option.{same_Some}
use Rattle.std.proofs.lemmas.List.Sums.{sum_by-cons, sum_by_push}
use Rattle.sa_base.specs.declared.number.ActNo.{ActNo}
use Rattle.sa_devices.specs.Ios.{Io, due_of, sooner_of, is_number, io_at, without}
use Rattle.sa_laws.specs.Record.{is_io_of, is_io_of_other}
use Rattle.sa_virtual.specs.Holding.{in_ios}
use Rattle.sa_virtual.proofs.Turns.{sooner_one}
use Rattle.sa_vp_model.specs.Mirror.{AreNumbered}

abbrev one : Bool → ℕ
one b = cond b 1 0

abbrev of_number : ℕ → List Io → ℕ
of_number n ios = count_by (is_number n) ios

number-cons : (n : ℕ) (io : Io) (ios : List Io) → of_number n (io ∷ ios) ≡ one (eqb io.number n) + of_number n ios
number-cons n io ios = sum_by-cons (λ (x : Io). cond (is_number n x) 1 0) io ios

of-cons : (a : ActNo) (io : Io) (ios : List Io) → in_ios (io ∷ ios) a.0 ≡ one (is_io_of a io) + in_ios ios a.0
of-cons a io ios = sum_by-cons (λ (x : Io). cond (is_io_of a x) 1 0) io ios

-- AMONG THEM
abbrev IsAmong : Io → List Io → Type 0
IsAmong io [] = ⊥
IsAmong io (x ∷ xs) = (x ≡ io) ⊎ IsAmong io xs

due_among : (e : ℕ) (ios : List Io) (io : Io) → due_of e ios ≡ Some io → IsAmong io ios
due_among e [] io due = cc
due_among e (x ∷ xs) io due = elim (nat_le x.ends e) as (λ b. cond b (Some (sooner_of x (due_of e xs))) (due_of e xs) ≡ Some io → IsAmong io (x ∷ xs)) [
  | true ↦ λ is.
      let same : sooner_of x (due_of e xs) ≡ io = same_Some _ _ is in
      elim (sooner_one x (due_of e xs)) [
        | inl first ↦ inl (sym first ∙ same)
        | inr later ↦ inr (due_among e xs io (sym later ∙ ap Some same))
      ]
  | false ↦ λ is. inr (due_among e xs io is)
] due

among-number : (io : Io) (ios : List Io) → IsAmong io ios → 1 ≤ of_number io.number ios
among-number io [] there = absurd there
among-number io (x ∷ xs) (inl is) =
    let here : one (eqb x.number io.number) ≡ 1 = ap one (eq-eqb x.number io.number (ap (λ (y : Io). y.number) is)) in
    omega (arith, here, number-cons io.number x xs)
among-number io (x ∷ xs) (inr there) = omega (arith, among-number io xs there, number-cons io.number x xs)

among-found : (io : Io) (ios : List Io) → IsAmong io ios → of_number io.number ios ≤ 1 → io_at io.number ios ≡ Some io
among-found io [] there few = absurd there
among-found io (x ∷ xs) (inl is) few = ap (λ b. cond b (Some x) (io_at io.number xs)) (eq-eqb x.number io.number (ap (λ (y : Io). y.number) is)) ∙ ap Some is
among-found io (x ∷ xs) (inr there) few = elim (cases_eq x.number io.number) [
  | inl e ↦
      let here : one (eqb x.number io.number) ≡ 1 = ap one (eq-eqb x.number io.number e) in
      absurd (omega (arith, here, number-cons io.number x xs, among-number io xs there, few))
  | inr ne ↦
      let none : one (eqb x.number io.number) ≡ 0 = ap one (ne_eqb x.number io.number ne) in
      ap (λ b. cond b (Some x) (io_at io.number xs)) (ne_eqb x.number io.number ne)
      ∙ among-found io xs there (omega (arith, none, number-cons io.number x xs, few))
]

-- the one that is due is the one of its number
pub due_found : (e : ℕ) (io_count : ℕ) (ios : List Io) (io : Io) → AreNumbered io_count ios → due_of e ios ≡ Some io → io_at io.number ios ≡ Some io
due_found e io_count ios io numbered due = among-found io ios (due_among e ios io due) (numbered.once io.number)

-- THE ONLY ONE OF ITS VIRTUAL PROCESSOR
none_left : (a : ActNo) (ios : List Io) → in_ios ios a.0 ≡ 0 → filter (is_io_of_other a) ios ≡ ios
none_left a [] none = refl
none_left a (x ∷ xs) none =
    elim (is_io_of a x) as (λ b. b ≡ is_io_of a x → cond (not b) (x ∷ filter (is_io_of_other a) xs) (filter (is_io_of_other a) xs) ≡ x ∷ xs) [
      | true ↦ λ is. let some : one (is_io_of a x) ≡ 1 = ap one (sym is) in absurd (omega (arith, some, of-cons a x xs, none))
      | false ↦ λ is. let no-one : one (is_io_of a x) ≡ 0 = ap one (sym is) in ap (λ ys. x ∷ ys) (none_left a xs (omega (arith, no-one, of-cons a x xs, none)))
    ] refl

found_of : (a : ActNo) (n : ℕ) (here : Io) (ios : List Io) → io_at n ios ≡ Some here → is_io_of a here ≡ true → 1 ≤ in_ios ios a.0
found_of a n here [] is of = cc
found_of a n here (x ∷ xs) is of = elim (is_number n x) as (λ b. cond b (Some x) (io_at n xs) ≡ Some here → 1 ≤ in_ios (x ∷ xs) a.0) [
  | true ↦ λ at. let some : one (is_io_of a x) ≡ 1 = ap one (ap (is_io_of a) (same_Some _ _ at) ∙ of) in omega (arith, some, of-cons a x xs)
  | false ↦ λ at. omega (arith, found_of a n here xs at of, of-cons a x xs)
] is

pub record IsOver (a : ActNo) (n : ℕ) (here : Io) (ios : List Io) : Type 0 where
  pub left : filter (is_io_of_other a) ios ≡ without n ios
  pub found : find (is_io_of a) ios ≡ Some here

pub over : (a : ActNo) (n : ℕ) (here : Io) (ios : List Io) → io_at n ios ≡ Some here → is_io_of a here ≡ true → in_ios ios a.0 ≡ 1 → IsOver a n here ios
over a n here [] is of once = cc
over a n here (x ∷ xs) is of once = both (λ there alone. over a n here xs there of alone) (is_number n x) (is_io_of a x) refl refl where
  rest : List Io
  rest = filter (is_io_of_other a) xs

  both : (io_at n xs ≡ Some here → in_ios xs a.0 ≡ 1 → IsOver a n here xs) → (b c : Bool) → is_number n x ≡ b → is_io_of a x ≡ c → IsOver a n here (x ∷ xs)
  both later true true at mine =
      let same : x ≡ here = same_Some _ _ (sym (ap (λ b. cond b (Some x) (io_at n xs)) at) ∙ is) in
      let some : one (is_io_of a x) ≡ 1 = ap one mine in
      record {
        left = ap (λ c. cond (not c) (x ∷ rest) rest) mine ∙ none_left a xs (omega (arith, some, of-cons a x xs, once))
            ∙ sym (ap (λ b. cond b xs (x ∷ without n xs)) at);
        found = ap (λ c. cond c (Some x) (find (is_io_of a) xs)) mine ∙ ap Some same;
      }
  both later true false at mine =
      let same : x ≡ here = same_Some _ _ (sym (ap (λ b. cond b (Some x) (io_at n xs)) at) ∙ is) in
      let two : true ≡ false = sym of ∙ sym (ap (is_io_of a) same) ∙ mine in cc
  both later false true at mine =
      let some : one (is_io_of a x) ≡ 1 = ap one mine in
      let more = found_of a n here xs (sym (ap (λ b. cond b (Some x) (io_at n xs)) at) ∙ is) of in
      absurd (omega (arith, some, more, of-cons a x xs, once))
  both later false false at mine =
      let none : one (is_io_of a x) ≡ 0 = ap one mine in
      let more = later (sym (ap (λ b. cond b (Some x) (io_at n xs)) at) ∙ is) (omega (arith, none, of-cons a x xs, once)) in
      record {
        left = ap (λ c. cond (not c) (x ∷ rest) rest) mine ∙ ap (λ ys. x ∷ ys) more.left ∙ sym (ap (λ b. cond b xs (x ∷ without n xs)) at);
        found = ap (λ c. cond c (Some x) (find (is_io_of a) xs)) mine ∙ more.found;
      }

-- NUMBERS: one is over; one begins
fewer : (n : ℕ) (keeps : Io → Bool) (ios : List Io) → of_number n (filter keeps ios) ≤ of_number n ios
fewer n keeps [] = omega arith
fewer n keeps (x ∷ xs) = elim (keeps x) as (λ b. of_number n (cond b (x ∷ filter keeps xs) (filter keeps xs)) ≤ of_number n (x ∷ xs)) [
  | true ↦ omega (arith, fewer n keeps xs, number-cons n x xs, number-cons n x (filter keeps xs))
  | false ↦ omega (arith, fewer n keeps xs, number-cons n x xs)
]

pub numbered_over : (io_count : ℕ) (keeps : Io → Bool) (ios : List Io) → AreNumbered io_count ios → AreNumbered io_count (filter keeps ios)
numbered_over io_count keeps ios are = record {
  once = λ n. omega (arith, fewer n keeps ios, are.once n);
  below = λ n past. omega (arith, fewer n keeps ios, are.below n past);
}

pub numbered_more : (io_count : ℕ) (ios : List Io) (io : Io) → io.number ≡ io_count → AreNumbered io_count ios → AreNumbered (io_count + 1) (ios ++ io ∷ [])
numbered_more io_count ios io is are = record {
  once = λ n. elim (cases_eq io.number n) [
    | inl e ↦ omega (arith, sum_by_push (λ (x : Io). cond (is_number n x) 1 0) ios io, one_at (is_number n io), are.below n (omega (arith, e, is)))
    | inr ne ↦ let none : one (is_number n io) ≡ 0 = ap one (ne_eqb io.number n ne) in
        omega (arith, sum_by_push (λ (x : Io). cond (is_number n x) 1 0) ios io, none, are.once n)
  ];
  below = λ n past.
      let none : one (is_number n io) ≡ 0 = ap one (ne_eqb io.number n (λ e. absurd (omega (arith, e, is, past)))) in
      omega (arith, sum_by_push (λ (x : Io). cond (is_number n x) 1 0) ios io, none, are.below n (omega (arith, past)));
} where
  one_at : (b : Bool) → one b ≤ 1
  one_at true = omega arith
  one_at false = omega arith
