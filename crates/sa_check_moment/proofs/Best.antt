-- The best of the ready threads of a space.
use Rattle.std.proofs.Common.{◌≡◌, ◌≢◌, ℕ, suc, ◌-◌, ◌<◌, ◌≤◌, cond, inl, inr, refl, sym, ◌∙◌, ap, subst, arith, Some, None, List, [], ◌∷◌, length, true, false, map, filter}
use Rattle.std.specs.Prelude.{Option, Bool, ◌||◌, nat_lt, if◌then◌else◌, get_or, slice_get}
use Rattle.std.specs.List.{list_any}
use Rattle.std.specs.Option.{option_map}
use Rattle.std.proofs.lemmas.Bool.{cases_lt, cases_Bool, eqb-true, eq-eqb, and_parts, and_from, lt-ltb}
use Rattle.std.proofs.lemmas.Bool.Decides.{nat_tests}
use Rattle.std.proofs.lemmas.Option.{same_Some}
use Rattle.sa_lemmas.proofs.Searches.{any_at}
use Rattle.sa_base.specs.declared.number.ThreadNo.{ThreadNo}
use Rattle.sa_laws.specs.State.{SpaceState, Thread, thread_in}
use Rattle.sa_laws.specs.Readings.{Listed}
use Rattle.sa_ranks.specs.Pairs.{is_ready, rank_in, outranks, is_outranked}
use Rattle.sa_ranks.specs.Locks.{greater_of, greatest_of}
use Rattle.sa_check_moment.specs.Ranked.{row_stack, newest, is_below, IsGreatest, IsBest}
use Rattle.sa_check_moment.specs.Ranking.{has_rank, thread_of, of_rank, is_listed, times_in, IsRanked}
use Rattle.sa_check_moment.proofs.Keeping.{nobody}
use Rattle.sa_check_moment.proofs.Rows.{one-count}

some-at : (f : Thread → Bool) (xs : List Thread) → list_any f xs ≡ true → (j : ℕ) × (f (get_or xs j nobody) ≡ true)
some-at f [] any = absurd cc
some-at f (x ∷ xs) any = elim (cases_Bool (f x)) [
  | inl here ↦ (0, here)
  | inr other ↦ let more = some-at f xs (sym (ap (λ b. b || list_any f xs) other) ∙ any) in (suc more.0, more.1)
]

-- the threads of a rank, of one listed thread more
of-here : (x : SpaceState) (k : ℕ) (l : Listed) (ls : List Listed) → has_rank x k l ≡ true → of_rank x k (l ∷ ls) ≡ l.thread ∷ of_rank x k ls
of-here x k l ls has = ap (λ b. map thread_of (cond b (l ∷ filter (has_rank x k) ls) (filter (has_rank x k) ls))) has

of-apart : (x : SpaceState) (k : ℕ) (l : Listed) (ls : List Listed) → has_rank x k l ≡ false → of_rank x k (l ∷ ls) ≡ of_rank x k ls
of-apart x k l ls other = ap (λ b. map thread_of (cond b (l ∷ filter (has_rank x k) ls) (filter (has_rank x k) ls))) other

of-some : (x : SpaceState) (k : ℕ) (l : Listed) (ls : List Listed) → of_rank x k ls ≢ [] → of_rank x k (l ∷ ls) ≢ []
of-some x k l ls some none = elim (cases_Bool (has_rank x k l)) [
  | inl has ↦ let clash : l.thread ∷ of_rank x k ls ≡ [] = sym (of-here x k l ls has) ∙ none in cc
  | inr other ↦ some (sym (of-apart x k l ls other) ∙ none)
]

of-rest : (x : SpaceState) (k : ℕ) (l : Listed) (ls : List Listed) → of_rank x k (l ∷ ls) ≡ [] → of_rank x k ls ≡ []
of-rest x k l ls none = elim (cases_Bool (has_rank x k l)) [
  | inl has ↦ absurd (let clash : l.thread ∷ of_rank x k ls ≡ [] = sym (of-here x k l ls has) ∙ none in cc)
  | inr other ↦ sym (of-apart x k l ls other) ∙ none
]

of-own : (x : SpaceState) (k : ℕ) (l : Listed) (ls : List Listed) → rank_in x l.thread ≡ k → of_rank x k (l ∷ ls) ≢ []
of-own x k l ls is none =
    let clash : l.thread ∷ of_rank x k ls ≡ [] = sym (of-here x k l ls (eq-eqb (rank_in x l.thread) k is)) ∙ none in cc

-- a listed thread is among those of its rank, and some thread of a rank is listed
listed-of : (x : SpaceState) (t : ThreadNo) (ls : List Listed) → 1 ≤ times_in t ls → of_rank x (rank_in x t) ls ≢ []
listed-of x t [] some = absurd (omega arith)
listed-of x t (l ∷ ls) some = elim (cases_Bool (is_listed t l)) [
  | inl is ↦ of-own x (rank_in x t) l ls (ap (λ n. (get_or x.threads n nobody).program) (eqb-true l.thread.0 t.0 is))
  | inr other ↦
      let none : cond {A = ℕ} (is_listed t l) 1 0 ≡ 0 = ap (λ b. cond b 1 0) other in of-some x (rank_in x t) l ls (listed-of x t ls (omega (arith, none, some)))
]

pub record ListedOf (x : SpaceState) (k : ℕ) (ls : List Listed) : Type 0 where
  pub thread : ThreadNo
  pub listed : 1 ≤ times_in thread ls
  pub rank : rank_in x thread ≡ k

of-listed : (x : SpaceState) (k : ℕ) (ls : List Listed) → of_rank x k ls ≢ [] → ListedOf x k ls
of-listed x k [] some = absurd (some refl)
of-listed x k (l ∷ ls) some = elim (cases_Bool (has_rank x k l)) [
  | inl has ↦
      let one : cond {A = ℕ} (is_listed l.thread l) 1 0 ≡ 1 = ap (λ b. cond b 1 0) (eq-eqb l.thread.0 l.thread.0 refl) in
      record { thread = l.thread; listed = omega (arith, one); rank = eqb-true (rank_in x l.thread) k has }
  | inr other ↦
      let more = of-listed x k ls (λ none. some (of-apart x k l ls other ∙ none)) in
      record { thread = more.thread; listed = let less = more.listed in omega (arith, less); rank = more.rank }
]

lt-less : (a b : ℕ) → nat_lt a b ≡ true → a < b
lt-less a b is = grind (arith, nat_tests)

lt-false : (a b : ℕ) → b ≤ a → nat_lt a b ≡ false
lt-false a b less = grind (arith, nat_tests)

-- some ready thread outranks a rank exactly where the best does
module _ (x : SpaceState) (ls : List Listed) (row : List (List ThreadNo)) (is : IsRanked x ls row) where
  below : (o : Option ℕ) (rank : ℕ) → IsBest row o → is_outranked x rank ≡ true → is_below rank o ≡ true
  below o rank best any = by o best where
    some : (j : ℕ) × (outranks rank (get_or x.threads j nobody) ≡ true)
    some = some-at (outranks rank) x.threads any

    t : ThreadNo
    t = record { 0 = some.0 }

    two : (is_ready (thread_in x t).place ≡ true) × (nat_lt rank (thread_in x t).program ≡ true)
    two = and_parts (is_ready (thread_in x t).place) (nat_lt rank (thread_in x t).program) some.1

    stands : row_stack row (rank_in x t) ≢ []
    stands none =
        let once : times_in t ls ≡ 1 = is.once t ∙ ap (λ b. cond b 1 0) two.0 in
        listed-of x t ls (omega (arith, once)) (sym (is.each (rank_in x t)) ∙ none)

    by : (o : Option ℕ) → IsBest row o → is_below rank o ≡ true
    by None none = absurd (stands (none (rank_in x t)))
    by (Some b) best = elim (cases_lt b (rank_in x t)) [
      | inl above ↦ absurd (stands (best.above (rank_in x t) above))
      | inr within ↦ let less = lt-less rank (thread_in x t).program two.1 in lt-ltb rank b (omega (arith, less, within))
    ]

  above : (rank b : ℕ) → IsGreatest row b → rank < b → is_outranked x rank ≡ true
  above rank b best less =
      let found = of-listed x b ls (λ none. best.some (is.each b ∙ none)) in
      let ready : is_ready (thread_in x found.thread).place ≡ true = one-count _ (subst (λ n. 1 ≤ n) (is.once found.thread) found.listed) in
      any_at nobody (outranks rank) x.threads found.thread.0 refl
      (and_from (is_ready (thread_in x found.thread).place) (nat_lt rank (thread_in x found.thread).program) ready
      (lt-ltb rank (rank_in x found.thread) (omega (arith, less, found.rank))))

  pub best-row : (o : Option ℕ) → IsBest row o → (rank : ℕ) → is_outranked x rank ≡ is_below rank o
  best-row o best rank = elim (cases_Bool (is_outranked x rank)) [
    | inl any ↦ any ∙ sym (below o rank best any)
    | inr none ↦ none ∙ sym (by o best none)
  ]
    where
      by : (o : Option ℕ) → IsBest row o → is_outranked x rank ≡ false → is_below rank o ≡ false
      by None best none = refl
      by (Some b) best none = elim (cases_Bool (nat_lt rank b)) [
        | inl less ↦ absurd (let clash = sym none ∙ above rank b best (lt-less rank b less) in cc)
        | inr other ↦ other
      ]

-- the next by rank is the newest of the greatest rank
newest-rest : (y : ThreadNo) (xs : List ThreadNo) → xs ≢ [] → newest (y ∷ xs) ≡ newest xs
newest-rest y [] some = absurd (some refl)
newest-rest y (x ∷ xs) some =
    let one : length (y ∷ x ∷ xs) - 1 ≡ suc (length xs) = omega arith in
    let two : length (x ∷ xs) - 1 ≡ length xs = omega arith in
    ap (slice_get (y ∷ x ∷ xs)) one ∙ sym (ap (slice_get (x ∷ xs)) two)

greatest-in : (x : SpaceState) (ls : List Listed) (n : Listed) → greatest_of x ls ≡ Some n → of_rank x (rank_in x n.thread) ls ≢ []
greatest-in x [] n is = absurd cc
greatest-in x (l ∷ ls) n is = by (greatest_of x ls) (λ rest. greatest-in x ls n rest) is where
  own : l ≡ n → of_rank x (rank_in x n.thread) (l ∷ ls) ≢ []
  own same = of-own x (rank_in x n.thread) l ls (ap (λ (m : Listed). rank_in x m.thread) same)

  one : (b : Bool) (m : Listed) → (Some m ≡ Some n → of_rank x (rank_in x n.thread) ls ≢ []) → (if b then Some l else Some m) ≡ Some n
      → of_rank x (rank_in x n.thread) (l ∷ ls) ≢ []
  one true m rest is = own (same_Some l n is)
  one false m rest is = of-some x (rank_in x n.thread) l ls (rest is)

  by : (o : Option Listed) → (o ≡ Some n → of_rank x (rank_in x n.thread) ls ≢ []) → greater_of x l o ≡ Some n
      → of_rank x (rank_in x n.thread) (l ∷ ls) ≢ []
  by None rest is = own (same_Some l n is)
  by (Some m) rest is = one (nat_lt (rank_in x m.thread) (rank_in x l.thread)) m rest is

record GreatestIs (x : SpaceState) (ls : List Listed) (b : ℕ) : Type 0 where
  listed : Listed
  greatest : greatest_of x ls ≡ Some listed
  rank : rank_in x listed.thread ≡ b
  last : newest (of_rank x b ls) ≡ Some listed.thread

greatest-is : (x : SpaceState) (ls : List Listed) (b : ℕ) → ((k : ℕ) → b < k → of_rank x k ls ≡ []) → of_rank x b ls ≢ [] → GreatestIs x ls b
greatest-is x [] b none_above some = absurd (some refl)
greatest-is x (l ∷ ls) b none_above some =
    by (of_rank x b ls) refl (λ others. greatest-is x ls b (λ k past. of-rest x k l ls (none_above k past)) others) where
      within : rank_in x l.thread ≤ b
      within = elim (cases_lt b (rank_in x l.thread)) [
        | inl more ↦ absurd (of-own x (rank_in x l.thread) l ls refl (none_above (rank_in x l.thread) more))
        | inr less ↦ less
      ]

      none-else : of_rank x b ls ≡ [] → GreatestIs x (l ∷ ls) b
      none-else none = elim (cases_Bool (has_rank x b l)) [
        | inl has ↦
            let at : rank_in x l.thread ≡ b = eqb-true (rank_in x l.thread) b has in
            record {
              listed = l;
              greatest = alone (greatest_of x ls) refl at;
              rank = at;
              last = ap newest (of-here x b l ls has) ∙ ap (λ xs. newest (l.thread ∷ xs)) none;
            }
        | inr other ↦ absurd (some (of-apart x b l ls other ∙ none))
      ]
        where
          alone : (o : Option Listed) → greatest_of x ls ≡ o → rank_in x l.thread ≡ b → greater_of x l o ≡ Some l
          alone None rest at = refl
          alone (Some m) rest at =
              let there = greatest-in x ls m rest in
              let less : rank_in x m.thread < b = elim (cases_lt (rank_in x m.thread) b) [
                | inl less ↦ less
                | inr past ↦ elim (cases_lt b (rank_in x m.thread)) [
                  | inl more ↦ absurd (there (of-rest x (rank_in x m.thread) l ls (none_above (rank_in x m.thread) more)))
                  | inr same ↦ absurd (there (ap (λ k. of_rank x k ls) (let e : rank_in x m.thread ≡ b = omega arith in e) ∙ none))
                ]
              ] in
              ap (λ v. if v then Some l else Some m) (lt-ltb (rank_in x m.thread) (rank_in x l.thread) (omega (arith, less, at)))

      more : of_rank x b ls ≢ [] → GreatestIs x ls b → GreatestIs x (l ∷ ls) b
      more others rest =
          record {
            listed = rest.listed;
            greatest = ap (greater_of x l) rest.greatest
                ∙ ap (λ v. if v then Some l else Some rest.listed)
                (lt-false (rank_in x rest.listed.thread) (rank_in x l.thread) (let e = rest.rank in omega (arith, within, e)));
            rank = rest.rank;
            last = elim (cases_Bool (has_rank x b l)) [
              | inl has ↦ ap newest (of-here x b l ls has) ∙ newest-rest l.thread (of_rank x b ls) others ∙ rest.last
              | inr other ↦ ap newest (of-apart x b l ls other) ∙ rest.last
            ];
          }

      by : (xs : List ThreadNo) → of_rank x b ls ≡ xs → (of_rank x b ls ≢ [] → GreatestIs x ls b) → GreatestIs x (l ∷ ls) b
      by [] none rest = none-else none
      by (y ∷ ys) are rest =
          let others : of_rank x b ls ≢ [] = λ none. (let clash : y ∷ ys ≡ [] = sym are ∙ none in cc) in more others (rest others)

-- where none is listed there is none
greatest-none : (x : SpaceState) (ls : List Listed) → ((k : ℕ) → of_rank x k ls ≡ []) → greatest_of x ls ≡ None
greatest-none x [] none = refl
greatest-none x (l ∷ ls) none = absurd (of-own x (rank_in x l.thread) l ls refl (none (rank_in x l.thread)))

module _ (x : SpaceState) (ls : List Listed) (row : List (List ThreadNo)) (is : IsRanked x ls row) where
  pub next-row : (b : ℕ) → IsGreatest row b → option_map thread_of (greatest_of x ls) ≡ newest (row_stack row b)
  next-row b best =
      let g = greatest-is x ls b (λ k past. sym (is.each k) ∙ best.above k past) (λ none. best.some (is.each b ∙ none)) in
      ap (option_map thread_of) g.greatest ∙ sym g.last ∙ sym (ap newest (is.each b))

  pub no-next : ((k : ℕ) → row_stack row k ≡ []) → option_map thread_of (greatest_of x ls) ≡ None
  no-next none = ap (option_map thread_of) (greatest-none x ls (λ k. sym (is.each k) ∙ none k))
