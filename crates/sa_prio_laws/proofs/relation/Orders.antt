-- The order by rank: what comes into it, what is taken out of it, and which thread is first.
use Rattle.std.proofs.Common.{◌≡◌, ◌≢◌, ℕ, ◌+◌, ◌<◌, ◌≤◌, nat_lt, Bool, true, false, if◌then◌else◌, List, [], ◌∷◌, ◌++◌, drop, Option, Some, None, slice_get, refl, sym, ap, ◌∙◌, subst, inl, inr, arith}
use Rattle.std.proofs.lemmas.Bool.{cases_eq, cases_lt, lt-ltb, le-ltb}
use Rattle.std.proofs.lemmas.Option.{same_Some}
use Rattle.sa_links.proofs.Counting.{count-cons, count-cons-ge, count_same, count_other, without_same, without_other, count_without_same, count_without_other, without_lacked}
use Rattle.sa_links.specs.Lists.{count_in, without, IsIn}
use Rattle.sa_lists.proofs.Changes.{count-inserted}
use Rattle.sa_lists.specs.Chains.{IsOrdered}
use Rattle.sa_lists.specs.ReadyView.{rank_of, inserted}
use Rattle.sa_prio_laws.specs.ByRank.{by_rank_from, by_rank, greater, greatest}

-- A THREAD COMES after the others
pub by_rank-append : (ranks xs ns : List ℕ) (t : ℕ) → by_rank_from ranks xs (ns ++ t ∷ []) ≡ inserted ranks t (by_rank_from ranks xs ns)
by_rank-append ranks xs [] t = refl
by_rank-append ranks xs (n ∷ ns) t = by_rank-append ranks (inserted ranks n xs) ns t

pub count-by_rank : (ranks xs ns : List ℕ) (u : ℕ) → count_in u (by_rank_from ranks xs ns) ≡ count_in u xs + count_in u ns
count-by_rank ranks xs [] u = omega arith
count-by_rank ranks xs (n ∷ ns) u =
    let rest = count-by_rank ranks (inserted ranks n xs) ns u in
    let one = count-inserted ranks n u xs in let here = count-cons u n xs in let there = count-cons u n ns in omega arith

-- IN ORDER
inserted-ordered : (ranks : List ℕ) (t : ℕ) (xs : List ℕ) → IsOrdered ranks xs → IsOrdered ranks (inserted ranks t xs)
inserted-ordered ranks t [] h = ((λ y is. absurd (let none : count_in y [] ≡ 0 = refl in omega arith)), tt)
inserted-ordered ranks t (x ∷ xs) h = elim (cases_lt (rank_of ranks t) (rank_of ranks x)) [
  | inl less ↦ subst (IsOrdered ranks) (sym (ap (λ b. if b then x ∷ inserted ranks t xs else t ∷ x ∷ xs) (lt-ltb (rank_of ranks t) (rank_of ranks x) less))) (
    (λ y is. elim (cases_eq t y) [
      | inl same ↦ (let r : rank_of ranks y ≡ rank_of ranks t = ap (rank_of ranks) (sym same) in omega arith)
      | inr ne ↦ h.0 y (let all = count-inserted ranks t y xs in let one = count_other y t xs ne in omega arith)
    ]),
    inserted-ordered ranks t xs h.1,
  )
  | inr more ↦ subst (IsOrdered ranks) (sym (ap (λ b. if b then x ∷ inserted ranks t xs else t ∷ x ∷ xs) (le-ltb (rank_of ranks t) (rank_of ranks x) more))) (
    (λ y is. elim (cases_eq x y) [
      | inl same ↦ (let r : rank_of ranks y ≡ rank_of ranks x = ap (rank_of ranks) (sym same) in omega arith)
      | inr ne ↦ (let below = h.0 y (let one = count_other y x xs ne in omega arith) in omega arith)
    ]),
    h,
  )
]

pub by_rank-ordered : (ranks xs ns : List ℕ) → IsOrdered ranks xs → IsOrdered ranks (by_rank_from ranks xs ns)
by_rank-ordered ranks xs [] h = h
by_rank-ordered ranks xs (n ∷ ns) h = by_rank-ordered ranks (inserted ranks n xs) ns (inserted-ordered ranks n xs h)

-- A THREAD IS TAKEN OUT
inserted-behind : (ranks : List ℕ) (t x : ℕ) (xs : List ℕ) → rank_of ranks t < rank_of ranks x → inserted ranks t (x ∷ xs) ≡ x ∷ inserted ranks t xs
inserted-behind ranks t x xs less = ap (λ b. if b then x ∷ inserted ranks t xs else t ∷ x ∷ xs) (lt-ltb (rank_of ranks t) (rank_of ranks x) less)

inserted-before : (ranks : List ℕ) (t x : ℕ) (xs : List ℕ) → rank_of ranks x ≤ rank_of ranks t → inserted ranks t (x ∷ xs) ≡ t ∷ x ∷ xs
inserted-before ranks t x xs more = ap (λ b. if b then x ∷ inserted ranks t xs else t ∷ x ∷ xs) (le-ltb (rank_of ranks t) (rank_of ranks x) more)

-- in front of threads of no greater rank
inserted-front : (ranks : List ℕ) (t : ℕ) (xs : List ℕ) → ((y : ℕ) → IsIn y xs → rank_of ranks y ≤ rank_of ranks t) → inserted ranks t xs ≡ t ∷ xs
inserted-front ranks t [] all = refl
inserted-front ranks t (x ∷ xs) all = inserted-before ranks t x xs (all x (let one = count_same x x xs refl in omega arith))

count-without : (t y : ℕ) (xs : List ℕ) → count_in y (without t xs) ≤ count_in y xs
count-without t y xs = elim (cases_eq y t) [
  | inl same ↦ (let none : count_in y (without t xs) ≡ 0 = ap (λ n. count_in n (without t xs)) same ∙ count_without_same t xs in omega arith)
  | inr ne ↦ (let all = count_without_other y t xs ne in omega arith)
]

without-inserted_same : (ranks : List ℕ) (t : ℕ) (xs : List ℕ) → without t (inserted ranks t xs) ≡ without t xs
without-inserted_same ranks t [] = without_same t t [] refl
without-inserted_same ranks t (x ∷ xs) = elim (cases_lt (rank_of ranks t) (rank_of ranks x)) [
  | inl less ↦ ap (without t) (inserted-behind ranks t x xs less) ∙ (elim (cases_eq x t) [
    | inl same ↦ absurd (let r = ap (rank_of ranks) same in omega arith)
    | inr ne ↦ without_other t x (inserted ranks t xs) ne ∙ ap (λ ys. x ∷ ys) (without-inserted_same ranks t xs) ∙ sym (without_other t x xs ne)
  ])
  | inr more ↦ ap (without t) (inserted-before ranks t x xs more) ∙ without_same t t (x ∷ xs) refl
]

without-inserted : (ranks : List ℕ) (t n : ℕ) (xs : List ℕ) → n ≢ t → IsOrdered ranks xs → without t (inserted ranks n xs) ≡ inserted ranks n (without t xs)
without-inserted ranks t n [] ne h = without_other t n [] ne
without-inserted ranks t n (x ∷ xs) ne h = elim (cases_lt (rank_of ranks n) (rank_of ranks x)) [
  | inl less ↦ ap (without t) (inserted-behind ranks n x xs less) ∙ (elim (cases_eq x t) [
    | inl same ↦ without_same t x (inserted ranks n xs) same ∙ without-inserted ranks t n xs ne h.1 ∙ ap (inserted ranks n) (sym (without_same t x xs same))
    | inr other ↦ without_other t x (inserted ranks n xs) other ∙ ap (λ ys. x ∷ ys) (without-inserted ranks t n xs ne h.1)
        ∙ sym (inserted-behind ranks n x (without t xs) less) ∙ ap (inserted ranks n) (sym (without_other t x xs other))
  ])
  | inr more ↦ ap (without t) (inserted-before ranks n x xs more) ∙ without_other t n (x ∷ xs) ne
      ∙ sym (inserted-front ranks n (without t (x ∷ xs)) (λ y is. (elim (cases_eq x y) [
        | inl same ↦ (let r : rank_of ranks y ≡ rank_of ranks x = ap (rank_of ranks) (sym same) in omega arith)
        | inr apart ↦ (
            let below = h.0 y (
            let less = count-without t y (x ∷ xs) in let one = count_other y x xs apart in omega arith) in omega arith)
      ])))
]

pub by_rank-without : (ranks xs ns : List ℕ) (t : ℕ) → IsOrdered ranks xs
    → without t (by_rank_from ranks xs ns) ≡ by_rank_from ranks (without t xs) (without t ns)
by_rank-without ranks xs [] t h = refl
by_rank-without ranks xs (n ∷ ns) t h = elim (cases_eq n t) [
  | inl same ↦ by_rank-without ranks (inserted ranks n xs) ns t (inserted-ordered ranks n xs h)
      ∙ ap (λ ys. by_rank_from ranks ys (without t ns)) (ap (λ m. without t (inserted ranks m xs)) same ∙ without-inserted_same ranks t xs)
      ∙ ap (by_rank_from ranks (without t xs)) (sym (without_same t n ns same))
  | inr ne ↦ by_rank-without ranks (inserted ranks n xs) ns t (inserted-ordered ranks n xs h)
      ∙ ap (λ ys. by_rank_from ranks ys (without t ns)) (without-inserted ranks t n xs ne h)
      ∙ ap (by_rank_from ranks (without t xs)) (sym (without_other t n ns ne))
]

-- the first is taken out
pub without-first : (xs : List ℕ) (t : ℕ) → count_in t xs ≤ 1 → slice_get xs 0 ≡ Some t → without t xs ≡ drop 1 xs
without-first [] t once e = absurd cc
without-first (x ∷ xs) t once e =
    let same : x ≡ t = same_Some x t e in
    let all = count_same t x xs same in
    without_same t x xs same ∙ without_lacked t xs (omega arith)

-- THE FIRST is the newest of those of the greatest rank
greater-first : (ranks : List ℕ) (t : ℕ) (xs : List ℕ) → slice_get (inserted ranks t xs) 0 ≡ greater ranks (slice_get xs 0) (Some t)
greater-first ranks t [] = refl
greater-first ranks t (x ∷ xs) = elim (nat_lt (rank_of ranks t) (rank_of ranks x))
    as (λ b. slice_get (if b then x ∷ inserted ranks t xs else t ∷ x ∷ xs) 0 ≡ (if b then Some x else Some t)) [
      | true ↦ refl
      | false ↦ refl
    ]

greater-joins : (ranks : List ℕ) (a : Option ℕ) (n : ℕ) (g : Option ℕ) → greater ranks (greater ranks a (Some n)) g ≡ greater ranks a (greater ranks (Some n) g)
greater-joins ranks a n None = refl
greater-joins ranks None n (Some g) = by (nat_lt (rank_of ranks g) (rank_of ranks n)) where
  by : (b : Bool) → (if b then Some n else Some g) ≡ greater ranks None (if b then Some n else Some g)
  by true = refl
  by false = refl
greater-joins ranks (Some x) n (Some g) = elim (cases_lt (rank_of ranks n) (rank_of ranks x)) [
  | inl below ↦ ap (λ b. greater ranks (if b then Some x else Some n) (Some g)) (lt-ltb (rank_of ranks n) (rank_of ranks x) below)
      ∙ (elim (cases_lt (rank_of ranks g) (rank_of ranks n)) [
        | inl less ↦ ap (λ b. if b then Some x else Some g) (lt-ltb (rank_of ranks g) (rank_of ranks x) (omega arith))
            ∙ sym (ap (λ b. greater ranks (Some x) (if b then Some n else Some g)) (lt-ltb (rank_of ranks g) (rank_of ranks n) less)
            ∙ ap (λ b. if b then Some x else Some n) (lt-ltb (rank_of ranks n) (rank_of ranks x) below))
        | inr more ↦ sym (ap (λ b. greater ranks (Some x) (if b then Some n else Some g)) (le-ltb (rank_of ranks g) (rank_of ranks n) more))
      ])
  | inr above ↦ ap (λ b. greater ranks (if b then Some x else Some n) (Some g)) (le-ltb (rank_of ranks n) (rank_of ranks x) above)
      ∙ (elim (cases_lt (rank_of ranks g) (rank_of ranks n)) [
        | inl less ↦ ap (λ b. if b then Some n else Some g) (lt-ltb (rank_of ranks g) (rank_of ranks n) less)
            ∙ sym (ap (λ b. greater ranks (Some x) (if b then Some n else Some g)) (lt-ltb (rank_of ranks g) (rank_of ranks n) less)
            ∙ ap (λ b. if b then Some x else Some n) (le-ltb (rank_of ranks n) (rank_of ranks x) above))
        | inr more ↦ ap (λ b. if b then Some n else Some g) (le-ltb (rank_of ranks g) (rank_of ranks n) more)
            ∙ sym (ap (λ b. greater ranks (Some x) (if b then Some n else Some g)) (le-ltb (rank_of ranks g) (rank_of ranks n) more)
            ∙ ap (λ b. if b then Some x else Some g) (le-ltb (rank_of ranks g) (rank_of ranks x) (omega arith)))
      ])
]

first-from : (ranks xs ns : List ℕ) → slice_get (by_rank_from ranks xs ns) 0 ≡ greater ranks (slice_get xs 0) (greatest ranks ns)
first-from ranks xs [] = refl
first-from ranks xs (n ∷ ns) =
    first-from ranks (inserted ranks n xs) ns ∙ ap (λ o. greater ranks o (greatest ranks ns)) (greater-first ranks n xs)
    ∙ greater-joins ranks (slice_get xs 0) n (greatest ranks ns)

pub first-by_rank : (ranks ns : List ℕ) → slice_get (by_rank ranks ns) 0 ≡ greatest ranks ns
first-by_rank ranks ns = first-from ranks [] ns ∙ by (greatest ranks ns) where
  by : (o : Option ℕ) → greater ranks None o ≡ o
  by None = refl
  by (Some n) = refl

-- OTHER RANKS that agree on the threads of the list
pub inserted-alike : (ranks now : List ℕ) (t : ℕ) (xs : List ℕ) → rank_of now t ≡ rank_of ranks t → ((y : ℕ) → IsIn y xs → rank_of now y ≡ rank_of ranks y)
    → inserted now t xs ≡ inserted ranks t xs
inserted-alike ranks now t [] one all = refl
inserted-alike ranks now t (x ∷ xs) one all =
    let here = all x (let one = count_same x x xs refl in omega arith) in
    let rest = inserted-alike ranks now t xs one (λ y is. all y (let more = count-cons-ge y x xs in omega arith)) in
    ap (λ n. if nat_lt n (rank_of now x) then x ∷ inserted now t xs else t ∷ x ∷ xs) one
    ∙ ap (λ n. if nat_lt (rank_of ranks t) n then x ∷ inserted now t xs else t ∷ x ∷ xs) here
    ∙ ap (λ ys. if nat_lt (rank_of ranks t) (rank_of ranks x) then x ∷ ys else t ∷ x ∷ xs) rest

pub by_rank-alike : (ranks now xs ns : List ℕ) → ((y : ℕ) → IsIn y xs → rank_of now y ≡ rank_of ranks y)
    → ((y : ℕ) → IsIn y ns → rank_of now y ≡ rank_of ranks y)
    → by_rank_from now xs ns ≡ by_rank_from ranks xs ns
by_rank-alike ranks now xs [] old new = refl
by_rank-alike ranks now xs (n ∷ ns) old new =
    let here = new n (let one = count_same n n ns refl in omega arith) in
    ap (λ ys. by_rank_from now ys ns) (inserted-alike ranks now n xs here old)
    ∙ by_rank-alike ranks now (inserted ranks n xs) ns
    (λ y is. elim (cases_eq n y) [
      | inl same ↦ ap (rank_of now) (sym same) ∙ here ∙ ap (rank_of ranks) same
      | inr ne ↦ old y (
          let all = count-inserted ranks n y xs in let one = count_other y n xs ne in omega arith)
    ])
    (λ y is. new y (let more = count-cons-ge y n ns in omega arith))
