-- The lowest of the processors whose threads are in pairs.
use Rattle.std.proofs.Common.{◌≡◌, ◌≢◌, ℕ, zero, suc, ◌≤◌, ◌<◌, Bool, true, false, nat_lt, length, Option, Some, None, refl, sym, ap, ◌∙◌, subst, inl, inr, arith}
use Rattle.std.specs.Prelude.{◌==◌, if◌then◌else◌}
use Rattle.std.specs.Int.{bit_at}
use Rattle.std.specs.Option.{option_and_then}
use Rattle.std.proofs.lemmas.Bool.{cases_eq, ltb-true}
use Rattle.std.proofs.lemmas.Bool.Decides.{nat_tests}
use Rattle.std.proofs.lemmas.Option.{same_Some}
use Rattle.sa_base.specs.declared.number.ProcNo.{ProcNo}
use Rattle.sa_base.specs.declared.context.Seen.{Seen}
use Rattle.sa_lists.specs.ReadyView.{processor}
use Rattle.sa_prio_model.specs.declared.pair.Outranked.{Outranked}
use Rattle.sa_prio_model.specs.Prio.{Prio, on_at, rank_below, first_rank, outranked_on, outranked, lower, lowest_below, lowest}
use Rattle.sa_prio_model.specs.Laws.{IsLowest}

-- the processor of such a thread has a low line
low_by : (v : Prio) (best q n : ℕ) (low : Bool) → (if low then rank_below v.base best (on_at v q) else None) ≡ Some n → low ≡ true
low_by v best q n true e = refl
low_by v best q n false e = absurd cc

low_is : (bit : ℕ) → (bit == 1) ≡ true → bit ≡ 1
low_is bit e = grind (arith, nat_tests)

low_of : (v : Prio) (seen : Seen) (q n : ℕ) (first : Option ℕ) → option_and_then (λ best. outranked_on v seen best q) first ≡ Some n → bit_at seen.low q ≡ 1
low_of v seen q n None e = absurd cc
low_of v seen q n (Some best) e = low_is (bit_at seen.low q) (low_by v best q n (bit_at seen.low q == 1) e)

pub outranked-low : (v : Prio) (seen : Seen) (q : ProcNo) (n : ℕ) → outranked v seen q ≡ Some n → bit_at seen.low q.0 ≡ 1
outranked-low v seen q n e = low_of v seen q.0 n (first_rank v.base) e

module _ (v : Prio) (seen : Seen) (best : ℕ) where
  -- of the processors below n
  record IsFound (n : ℕ) (x : Outranked) : Type 0 where
    pub inside : x.proc.0 < n
    pub pair : outranked_on v seen best x.proc.0 ≡ Some x.rank
    pub lowest : (q m : ℕ) → q < n → outranked_on v seen best q ≡ Some m → x.rank ≤ m
    pub first : (q m : ℕ) → q < x.proc.0 → outranked_on v seen best q ≡ Some m → x.rank < m

  abbrev NoneBelow : ℕ → Type 0
  NoneBelow n = (q m : ℕ) → q < n → outranked_on v seen best q ≡ Some m → ⊥

  abbrev Says : ℕ → Option Outranked → Type 0
  Says n None = NoneBelow n
  Says n (Some x) = IsFound n x

  clash : {A : Type 0} (q n m : ℕ) → q ≡ n → outranked_on v seen best n ≡ None → outranked_on v seen best q ≡ Some m → A
  clash q n m same none some = absurd (let no : outranked_on v seen best q ≡ None = ap (outranked_on v seen best) same ∙ none in cc)

  one_rank : (q n m rank : ℕ) → q ≡ n → outranked_on v seen best n ≡ Some rank → outranked_on v seen best q ≡ Some m → rank ≡ m
  one_rank q n m rank same here there = same_Some rank m (sym here ∙ ap (outranked_on v seen best) (sym same) ∙ there)

  below_or : (q n : ℕ) → q < suc n → q ≢ n → q < n
  below_or q n less ne = omega arith

  says_stay : (n : ℕ) (found : Option Outranked) → Says n found → outranked_on v seen best n ≡ None → Says (suc n) found
  says_stay n None none here = λ q m less some. elim (cases_eq q n) [ inl same ↦ clash q n m same here some | inr ne ↦ none q m (below_or q n less ne) some ]
  says_stay n (Some x) is here = record {
    inside = let inside = is.inside in omega arith;
    pair = is.pair;
    lowest = λ q m less some. elim (cases_eq q n) [ inl same ↦ clash q n m same here some | inr ne ↦ is.lowest q m (below_or q n less ne) some ];
    first = is.first;
  }

  -- the one of processor n is lower than all before it
  newest : (n rank : ℕ) → outranked_on v seen best n ≡ Some rank → ((q m : ℕ) → q < n → outranked_on v seen best q ≡ Some m → rank < m)
      → IsFound (suc n) (record { proc = processor n; rank = rank })
  newest n rank here less = record {
    inside = omega arith;
    pair = here;
    lowest = λ q m inside some. elim (cases_eq q n) [
      | inl same ↦ let one = one_rank q n m rank same here some in omega arith
      | inr ne ↦ let below = less q m (below_or q n inside ne) some in omega arith
    ];
    first = less;
  }

  says_lower : (n : ℕ) (x : Outranked) (rank : ℕ) → IsFound n x → outranked_on v seen best n ≡ Some rank → (lower_rank : Bool) → nat_lt rank x.rank ≡ lower_rank
      → Says (suc n) (if lower_rank then Some (record { proc = processor n; rank = rank }) else Some x)
  says_lower n x rank is here true e =
      newest n rank here (λ q m less some. let least = is.lowest q m less some in let under = ltb-true rank x.rank e in omega arith)
  says_lower n x rank is here false e = record {
    inside = let inside = is.inside in omega arith;
    pair = is.pair;
    lowest = λ q m less some. elim (cases_eq q n) [
      | inl same ↦ let one = one_rank q n m rank same here some in let above : x.rank ≤ rank = grind (arith, nat_tests) in omega arith
      | inr ne ↦ is.lowest q m (below_or q n less ne) some
    ];
    first = is.first;
  }

  says_next : (n : ℕ) (found : Option Outranked) (rank : Option ℕ) → Says n found → outranked_on v seen best n ≡ rank → Says (suc n) (lower found n rank)
  says_next n found None says here = says_stay n found says here
  says_next n None (Some rank) says here = newest n rank here (λ q m less some. absurd (says q m less some))
  says_next n (Some x) (Some rank) says here = says_lower n x rank says here (nat_lt rank x.rank) refl

  says : (n : ℕ) → Says n (lowest_below v seen best n)
  says zero = λ q m less some. omega arith
  says (suc n) = says_next n (lowest_below v seen best n) (outranked_on v seen best n) (says n) refl

  found_says : (n : ℕ) (x : Outranked) (found : Option Outranked) → Says n found → found ≡ Some x → IsFound n x
  found_says n x None says e = absurd cc
  found_says n x (Some y) says e = subst (IsFound n) (same_Some y x e) says

  none_says : (n q : ℕ) (found : Option Outranked) (rank : Option ℕ) → Says n found → found ≡ None → q < n → outranked_on v seen best q ≡ rank
      → outranked_on v seen best q ≡ None
  none_says n q None None says e less is = is
  none_says n q None (Some m) says e less is = absurd (says q m less is)
  none_says n q (Some y) rank says e less is = absurd cc

-- with the first ready thread, if there is one
lowest_by : (v : Prio) (seen : Seen) (x : Outranked) (first : Option ℕ) → first_rank v.base ≡ first
    → option_and_then (λ best. lowest_below v seen best (length v.on)) first ≡ Some x → IsLowest v seen x
lowest_by v seen x None is e = absurd cc
lowest_by v seen x (Some best) is e =
    let found = found_says v seen best (length v.on) x (lowest_below v seen best (length v.on)) (says v seen best (length v.on)) e in
    let on_is : (q : ProcNo) → outranked v seen q ≡ outranked_on v seen best q.0 = λ q. ap (option_and_then (λ b. outranked_on v seen b q.0)) is in
    record {
      inside = found.inside;
      pair = on_is x.proc ∙ found.pair;
      lowest = λ q n less some. found.lowest q.0 n less (sym (on_is q) ∙ some);
      first = λ q n less some. found.first q.0 n less (sym (on_is q) ∙ some);
    }

pub lowest-is : (v : Prio) (seen : Seen) (x : Outranked) → lowest v seen ≡ Some x → IsLowest v seen x
lowest-is v seen x e = lowest_by v seen x (first_rank v.base) refl e

none_by : (v : Prio) (seen : Seen) (q : ProcNo) (first : Option ℕ) → option_and_then (λ best. lowest_below v seen best (length v.on)) first ≡ None
    → q.0 < length v.on
    → option_and_then (λ best. outranked_on v seen best q.0) first ≡ None
none_by v seen q None e less = refl
none_by v seen q (Some best) e less =
    none_says v seen best (length v.on) q.0 (lowest_below v seen best (length v.on)) (outranked_on v seen best q.0) (says v seen best (length v.on)) e less refl

pub lowest-none : (v : Prio) (seen : Seen) (q : ProcNo) → lowest v seen ≡ None → q.0 < length v.on → outranked v seen q ≡ None
lowest-none v seen q e less = none_by v seen q (first_rank v.base) e less
