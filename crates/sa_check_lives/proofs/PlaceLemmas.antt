-- What stands at the place of a number on a shelf, and what a change there does.
use Rattle.std.proofs.Common.{◌≡◌, ◌≢◌, ℕ, zero, suc, ◌+◌, ◌<◌, ◌==◌, not, true, false, length, List, [], ◌∷◌, ◌++◌, get_or, inl, inr, refl, sym, ◌∙◌, ap, Option, Some, None, arith}
use Rattle.std.specs.Prelude.{cond, filter, slice_index_or, slice_set}
use Rattle.std.specs.Option.{option_map}
use Rattle.std.specs.Ordering.{nat_cmp, is_eq}
use Rattle.std.specs.Cmp.{nat_cmp_is}
use Rattle.std.specs.declared.cmp.Ordering.TheVariants.{Less, Equal, Greater}
use Rattle.std.specs.BTreeMap.{is_at}
use Rattle.std.specs.List.{position_from}
use Rattle.std.proofs.Math.Path.{fun_ext}
use Rattle.std.proofs.lemmas.Bool.{cases_eq, cases_lt}
use Rattle.std.proofs.lemmas.Bool.Decides.{nat_tests}
use Rattle.std.proofs.lemmas.Iterator.Adapters.{position_from-zero}
use Rattle.std.proofs.lemmas.List.Quantifiers.{position-Some}
use Rattle.std.proofs.lemmas.Map.Entries.{lookup-filter-keys}
use Rattle.sa_lemmas.specs.Function.{put}
use Rattle.sa_lemmas.proofs.FunctionUpdates.{put-at, put-other, put-same, put-self}
use Rattle.sa_laws.specs.Life.{Life}
use Rattle.sa_check_lives.specs.Table.{lives_among, place_among}

-- an entry of a number, and one of another
is-at : (q k : ℕ) → k ≡ q → is_at (nat_cmp q) k ≡ true
is-at q k same = ap is_eq (sym (nat_cmp_is q k Equal (sym same)))

is-apart : (q k : ℕ) → k ≢ q → is_at (nat_cmp q) k ≡ false
is-apart q k apart = elim (cases_lt q k) [
  | inl less ↦ ap is_eq (sym (nat_cmp_is q k Less less))
  | inr more ↦ elim (cases_lt k q) [
    | inl less ↦ ap is_eq (sym (nat_cmp_is q k Greater less))
    | inr other ↦ absurd (apart (omega arith))
  ]
]

first-is : (q : ℕ) (e : ℕ × Life) (es : List (ℕ × Life)) → e.0 ≡ q → lives_among (e ∷ es) q ≡ Some e.1
first-is q e es same = ap (λ b. cond b (Some e.1) (lives_among es q)) (is-at q e.0 same)

first-apart : (q : ℕ) (e : ℕ × Life) (es : List (ℕ × Life)) → e.0 ≢ q → lives_among (e ∷ es) q ≡ lives_among es q
first-apart q e es apart = ap (λ b. cond b (Some e.1) (lives_among es q)) (is-apart q e.0 apart)

-- the first entry of a number stands at a place
record IsFirst (es : List (ℕ × Life)) (a i : ℕ) (d : ℕ × Life) : Type 0 where
  within : i < length es
  here : (get_or es i d).0 ≡ a
  before : (k : ℕ) → k < i → (get_or es k d).0 ≢ a

is-first : (es : List (ℕ × Life)) (a i : ℕ) (d : ℕ × Life) → place_among es a ≡ Some i → IsFirst es a i d
is-first es a i d is =
    let at = position-Some (λ (e : ℕ × Life). e.0 == a) es i d is in
    record { within = at.0; here = grind (arith, nat_tests, at.1); before = λ k less same. let no = at.2 k less in absurd (grind (arith, nat_tests)) }

first-rest : (e d : ℕ × Life) (es : List (ℕ × Life)) (a i : ℕ) → IsFirst (e ∷ es) a (suc i) d → IsFirst es a i d
first-rest e d es a i at = record { within = omega (arith, at.within); here = at.here; before = λ k less. at.before (suc k) (omega arith) }

found-go : (es : List (ℕ × Life)) (a i : ℕ) (d : ℕ × Life) → IsFirst es a i d → lives_among es a ≡ Some (get_or es i d).1
found-go [] a i d at = absurd (omega (arith, at.within))
found-go (e ∷ es) a zero d at = first-is a e es at.here
found-go (e ∷ es) a (suc i) d at = first-apart a e es (at.before 0 (omega arith)) ∙ found-go es a i d (first-rest e d es a i at)

set-go : (es : List (ℕ × Life)) (a i : ℕ) (d : ℕ × Life) (w : Life) (q : ℕ) → IsFirst es a i d
    → lives_among (slice_set es i (a, w)) q ≡ put (lives_among es) a (Some w) q
set-go [] a i d w q at = absurd (omega (arith, at.within))
set-go (e ∷ es) a zero d w q at = elim (cases_eq q a) [
  | inl same ↦ first-is q (a, w) es (sym same) ∙ sym (put-at (lives_among (e ∷ es)) a q (Some w) same)
  | inr apart ↦
      first-apart q (a, w) es (λ is. apart (sym is))
      ∙ sym (put-other (lives_among (e ∷ es)) a q (Some w) apart ∙ first-apart q e es (λ is. apart (sym is ∙ at.here)))
]
set-go (e ∷ es) a (suc i) d w q at =
    let rest : lives_among (slice_set es i (a, w)) q ≡ put (lives_among es) a (Some w) q = set-go es a i d w q (first-rest e d es a i at) in
    elim (cases_eq q a) [
      | inl same ↦
          first-apart q e (slice_set es i (a, w)) (λ is. at.before 0 (omega arith) (is ∙ same)) ∙ rest
          ∙ put-at (lives_among es) a q (Some w) same ∙ sym (put-at (lives_among (e ∷ es)) a q (Some w) same)
      | inr apart ↦
          ap (cond (is_at (nat_cmp q) e.0) (Some e.1)) (rest ∙ put-other (lives_among es) a q (Some w) apart)
          ∙ sym (put-other (lives_among (e ∷ es)) a q (Some w) apart)
    ]

-- no entry has a number
none-go : (es : List (ℕ × Life)) (a n : ℕ) → position_from (λ (e : ℕ × Life). e.0 == a) n es ≡ None → lives_among es a ≡ None
none-go [] a n none = refl
none-go (e ∷ es) a n none =
    let rest = position_from (λ (f : ℕ × Life). f.0 == a) (n + 1) es in
    elim (cases_eq e.0 a) [
      | inl same ↦
          let here : (e.0 == a) ≡ true = grind (arith, nat_tests) in
          let found : Some n ≡ None = sym (ap (λ b. cond b (Some n) rest) here) ∙ none in
          absurd (cc)
      | inr apart ↦
          let other : (e.0 == a) ≡ false = grind (arith, nat_tests) in
          first-apart a e es apart ∙ none-go es a (n + 1) (sym (ap (λ b. cond b (Some n) rest) other) ∙ none)
    ]

not-there : (es : List (ℕ × Life)) (a : ℕ) → place_among es a ≡ None → lives_among es a ≡ None
not-there es a none = none-go es a 0 (sym (position_from-zero (λ (e : ℕ × Life). e.0 == a) es) ∙ none)

-- a life that begins where none has its number
last-go : (es : List (ℕ × Life)) (a : ℕ) (w : Life) (q : ℕ) → lives_among es a ≡ None
    → lives_among (es ++ (a, w) ∷ []) q ≡ put (lives_among es) a (Some w) q
last-go [] a w q none = elim (cases_eq q a) [
  | inl same ↦ first-is q (a, w) [] (sym same) ∙ sym (put-at (lives_among []) a q (Some w) same)
  | inr apart ↦ first-apart q (a, w) [] (λ is. apart (sym is)) ∙ sym (put-other (lives_among []) a q (Some w) apart)
]
last-go (e ∷ es) a w q none = elim (cases_eq e.0 a) [
  | inl here ↦ let found : Some e.1 ≡ None = sym (first-is a e es here) ∙ none in absurd (cc)
  | inr off ↦
      let rest : lives_among (es ++ (a, w) ∷ []) q ≡ put (lives_among es) a (Some w) q =
      last-go es a w q (sym (first-apart a e es off) ∙ none) in
      elim (cases_eq q a) [
        | inl same ↦
            first-apart q e (es ++ (a, w) ∷ []) (λ is. off (is ∙ same)) ∙ rest
            ∙ put-at (lives_among es) a q (Some w) same ∙ sym (put-at (lives_among (e ∷ es)) a q (Some w) same)
        | inr apart ↦
            ap (cond (is_at (nat_cmp q) e.0) (Some e.1)) (rest ∙ put-other (lives_among es) a q (Some w) apart)
            ∙ sym (put-other (lives_among (e ∷ es)) a q (Some w) apart)
      ]
]

-- all entries of a number go
pub taken-out : (es : List (ℕ × Life)) (a : ℕ) → lives_among (filter (λ e. not (e.0 == a)) es) ≡ put (lives_among es) a None
taken-out es a = fun_ext (λ q. elim (cases_eq q a) [
  | inl same ↦
      lookup-filter-keys (is_at (nat_cmp q)) (λ k. not (k == a)) false (λ k at. grind (arith, nat_tests)) es
      ∙ sym (put-at (lives_among es) a q None same)
  | inr apart ↦
      lookup-filter-keys (is_at (nat_cmp q)) (λ k. not (k == a)) true (λ k at. grind (arith, nat_tests)) es
      ∙ sym (put-other (lives_among es) a q None apart)
])

-- what was found of a number among the entries that were seen, which are those of a shelf
module _ (es now : List (ℕ × Life)) (view : es ≡ now) (seen : List (ℕ × Life)) (value : seen ≡ es) (a : ℕ) (o : Option ℕ) (place : o ≡ place_among seen a) where
  -- no place: no life has the number
  pub absent : o ≡ None → lives_among now a ≡ None
  absent none = not-there now a (ap (λ xs. place_among xs a) (sym (value ∙ view)) ∙ sym place ∙ none)

  pub kept-absent : (f : Life → Life) → o ≡ None → lives_among now ≡ put (lives_among now) a (option_map f (lives_among now a))
  kept-absent f none =
      sym (ap (λ here. put (lives_among now) a (option_map f here)) (absent none)
      ∙ ap (put (lives_among now) a) (sym (absent none)) ∙ put-self (lives_among now) a)

  pub added-last : (w : Life) (new : List (ℕ × Life)) → new ≡ es ++ (a, w) ∷ [] → o ≡ None → lives_among new ≡ put (lives_among now) a (Some w)
  added-last w new is none =
      ap lives_among (is ∙ ap (λ xs. xs ++ (a, w) ∷ []) view)
      ∙ fun_ext (λ q. last-go now a w q (absent none))

  module _ (i : ℕ) (is : o ≡ Some i) (before : ℕ × Life) (was : before ≡ slice_index_or es i before) where
    first : IsFirst es a i before
    first = is-first es a i before (ap (λ xs. place_among xs a) (sym value) ∙ sym place ∙ is)

    -- the life at the place
    pub found-there : lives_among now a ≡ Some before.1
    found-there = ap (λ xs. lives_among xs a) (sym view) ∙ found-go es a i before first ∙ ap (λ (e : ℕ × Life). Some e.1) (sym was)

    -- another life there
    pub put-there : (w : Life) → lives_among (slice_set es i (a, w)) ≡ put (lives_among now) a (Some w)
    put-there w = fun_ext (λ q. set-go es a i before w q first) ∙ ap (λ xs. put (lives_among xs) a (Some w)) view

    same-number : before.0 ≡ a
    same-number = ap (λ (e : ℕ × Life). e.0) was ∙ first.here

    -- a change of the life there, or none
    pub changed-there : (f : Life → Life) (w : Life) → w ≡ f before.1
        → lives_among (slice_set es i (before.0, w)) ≡ put (lives_among now) a (option_map f (lives_among now a))
    changed-there f w new =
        ap (λ k. lives_among (slice_set es i (k, w))) same-number ∙ put-there w
        ∙ ap (put (lives_among now) a) (ap (λ x. Some x) new ∙ sym (ap (option_map f) found-there))

    pub kept-there : (w : Life) → w ≡ before.1 → lives_among (slice_set es i (before.0, w)) ≡ lives_among now
    kept-there w old =
        ap (λ k. lives_among (slice_set es i (k, w))) same-number ∙ put-there w
        ∙ ap (put (lives_among now) a) (ap (λ x. Some x) old ∙ sym found-there) ∙ put-self (lives_among now) a

    -- the life there, after it
    pub there-now : (w : Life) → lives_among (slice_set es i (before.0, w)) a ≡ Some w
    there-now w =
        ap (λ k. lives_among (slice_set es i (k, w)) a) same-number ∙ ap (λ f. f a) (put-there w) ∙ put-same (lives_among now) a (Some w)
