-- The ready threads of one space by their ranks, after a change.
use Rattle.std.proofs.Common.{◌≡◌, ◌≢◌, ℕ, zero, suc, ◌+◌, ◌-◌, ◌<◌, ◌≤◌, cond, inl, inr, refl, sym, ◌∙◌, ap, subst, arith, List, [], ◌∷◌, ◌++◌, length, true, false, map, filter, take}
use Rattle.std.specs.Prelude.{Bool, not, ◌==◌, if◌then◌else◌, get_or, slice_get, slice_set}
use Rattle.std.proofs.lemmas.Bool.{cases_eq, eqb-true, eq-eqb, ne_eqb, cases_Bool}
use Rattle.std.proofs.lemmas.List.{get_or-set_same, get_or-set_other, append-nil}
use Rattle.sa_base.specs.declared.number.ProcNo.{ProcNo}
use Rattle.sa_base.specs.declared.number.ThreadNo.{ThreadNo}
use Rattle.sa_laws.specs.declared.place.Place.{Place}
use Rattle.sa_laws.specs.declared.place.Place.TheVariants as place
use Rattle.sa_laws.specs.State.{SpaceState, Thread, thread_in, put_thread}
use Rattle.sa_laws.specs.Readings.{Listed}
use Rattle.sa_laws.specs.Record.{is_other_thread}
use Rattle.sa_ranks.specs.Pairs.{is_ready, rank_in}
use Rattle.sa_check_moment.specs.Ranked.{row_stack, newest, is_newest, is_other, without, HasPut}
use Rattle.sa_check_moment.specs.Ranking.{has_rank, thread_of, of_rank, is_listed, times_in, IsRanked}
use Rattle.sa_check_moment.proofs.Keeping.{nobody, KeepsReady}

-- what each listed thread has keeps the threads of each rank
is-listed : (l : Listed) (ls : List Listed) → 1 ≤ times_in l.thread (l ∷ ls)
is-listed l ls =
    let one : cond {A = ℕ} (is_listed l.thread l) 1 0 ≡ 1 = ap (λ b. cond b 1 0) (eq-eqb l.thread.0 l.thread.0 refl) in omega (arith, one)

more-listed : (t : ThreadNo) (l : Listed) (ls : List Listed) → times_in t ls ≤ times_in t (l ∷ ls)
more-listed t l ls = omega arith

pub of-same : (x y : SpaceState) (k : ℕ) (ls : List Listed) → ((t : ThreadNo) → 1 ≤ times_in t ls → rank_in y t ≡ rank_in x t)
    → of_rank y k ls ≡ of_rank x k ls
of-same x y k [] same = refl
of-same x y k (l ∷ ls) same =
    let rest = of-same x y k ls (λ t some. same t (omega (arith, some, more-listed t l ls))) in
    let one : has_rank y k l ≡ has_rank x k l = ap (λ n. n == k) (same l.thread (is-listed l ls)) in
    ap (λ b. map thread_of (cond b (l ∷ filter (has_rank y k) ls) (filter (has_rank y k) ls))) one
    ∙ by (has_rank x k l) rest
  where
    by : (b : Bool) → of_rank y k ls ≡ of_rank x k ls
        → map thread_of (cond b (l ∷ filter (has_rank y k) ls) (filter (has_rank y k) ls)) ≡ map thread_of (cond b (l ∷ filter (has_rank x k) ls) (filter (has_rank x k) ls))
    by true rest = ap (λ xs. l.thread ∷ xs) rest
    by false rest = rest

pub one-count : (b : Bool) → 1 ≤ cond b 1 0 → b ≡ true
one-count true h = refl
one-count false h = absurd (omega arith)

pub ranked-kept : (x y : SpaceState) (ls : List Listed) (row : List (List ThreadNo)) → KeepsReady x.threads y.threads → IsRanked x ls row → IsRanked y ls row
ranked-kept x y ls row keeps is = record {
  once = λ t. is.once t ∙ ap (λ b. cond b 1 0) (sym (keeps t.0).ready);
  each = λ k. is.each k ∙ sym (of-same x y k ls (λ t some. (keeps t.0).program (one-count _ (subst (λ n. 1 ≤ n) (is.once t) some))));
}

-- a thread that was made is put in a place
module _ (x : SpaceState) (t : ThreadNo) (to : Place) (made : t.0 < length x.threads) where
  put-rank : (u : ThreadNo) → rank_in (put_thread to x t) u ≡ rank_in x u
  put-rank u = elim (cases_eq u.0 t.0) [
    | inl same ↦
        ap (λ n. (get_or (slice_set x.threads t.0 (record (thread_in x t) { place = to })) n nobody).program) same
        ∙ ap (λ (v : Thread). v.program) (get_or-set_same x.threads t.0 (record (thread_in x t) { place = to }) nobody made)
        ∙ ap (λ n. (get_or x.threads n nobody).program) (sym same)
    | inr apart ↦ ap (λ (v : Thread). v.program) (get_or-set_other x.threads t.0 u.0 (record (thread_in x t) { place = to }) nobody apart)
  ]

  put-here : (u : ThreadNo) → u.0 ≡ t.0 → (thread_in (put_thread to x t) u).place ≡ to
  put-here u same =
      ap (λ n. (get_or (slice_set x.threads t.0 (record (thread_in x t) { place = to })) n nobody).place) same
      ∙ ap (λ (v : Thread). v.place) (get_or-set_same x.threads t.0 (record (thread_in x t) { place = to }) nobody made)

  put-other : (u : ThreadNo) → u.0 ≢ t.0 → (thread_in (put_thread to x t) u).place ≡ (thread_in x u).place
  put-other u apart = ap (λ (v : Thread). v.place) (get_or-set_other x.threads t.0 u.0 (record (thread_in x t) { place = to }) nobody apart)

-- one more listed thread
count-push : (u : ThreadNo) (ls : List Listed) (l : Listed) → times_in u (ls ++ l ∷ []) ≡ times_in u ls + cond (is_listed u l) 1 0
count-push u [] l = omega arith
count-push u (x ∷ ls) l = let rest = count-push u ls l in omega (arith, rest)

of-push : (x : SpaceState) (k : ℕ) (ls : List Listed) (l : Listed)
    → of_rank x k (ls ++ l ∷ []) ≡ of_rank x k ls ++ cond (has_rank x k l) (l.thread ∷ []) []
of-push x k [] l = by (has_rank x k l) where
  by : (b : Bool) → map thread_of (cond b (l ∷ []) []) ≡ [] ++ cond b (l.thread ∷ []) []
  by true = refl
  by false = refl
of-push x k (m ∷ ls) l = by (has_rank x k m) (of-push x k ls l) where
  by : (b : Bool) → of_rank x k (ls ++ l ∷ []) ≡ of_rank x k ls ++ cond (has_rank x k l) (l.thread ∷ []) []
      → map thread_of (cond b (m ∷ filter (has_rank x k) (ls ++ l ∷ [])) (filter (has_rank x k) (ls ++ l ∷ [])))
      ≡ map thread_of (cond b (m ∷ filter (has_rank x k) ls) (filter (has_rank x k) ls)) ++ cond (has_rank x k l) (l.thread ∷ []) []
  by true rest = ap (λ xs. m.thread ∷ xs) rest
  by false rest = rest

pub ranked-ready : (x : SpaceState) (ls : List Listed) (row new : List (List ThreadNo)) (t : ThreadNo) (l : Listed) → t.0 < length x.threads
    → is_ready (thread_in x t).place ≡ false → l.thread ≡ t → IsRanked x ls row → HasPut row (rank_in x t) (row_stack row (rank_in x t) ++ t ∷ []) new
    → IsRanked (put_thread place.Ready x t) (ls ++ l ∷ []) new
ranked-ready x ls row new t l made was names is put =
    let y = put_thread place.Ready x t in
    let ranks = put-rank x t place.Ready made in
    let same : (k : ℕ) → of_rank y k ls ≡ of_rank x k ls = λ k. of-same x y k ls (λ u some. ranks u) in
    record {
      once = λ u. count-push u ls l ∙ elim (cases_eq u.0 t.0) [
        | inl at ↦
            let none : times_in u ls ≡ 0 =
            is.once u ∙ ap (λ n. cond (is_ready (get_or x.threads n nobody).place) 1 0) at ∙ ap (λ b. cond b 1 0) was in
            let here : is_listed u l ≡ true = eq-eqb l.thread.0 u.0 (ap (λ (v : ThreadNo). v.0) names ∙ sym at) in
            let now : cond {A = ℕ} (is_ready (thread_in y u).place) 1 0 ≡ 1 = ap (λ (p : Place). cond (is_ready p) 1 0) (put-here x t place.Ready made u at) in
            let one : cond {A = ℕ} (is_listed u l) 1 0 ≡ 1 = ap (λ b. cond b 1 0) here in
            omega (arith, none, one, now)
        | inr apart ↦
            let other : is_listed u l ≡ false = ne_eqb l.thread.0 u.0 (λ e. apart (sym e ∙ ap (λ (v : ThreadNo). v.0) names)) in
            let none : cond {A = ℕ} (is_listed u l) 1 0 ≡ 0 = ap (λ b. cond b 1 0) other in
            let still : cond {A = ℕ} (is_ready (thread_in y u).place) 1 0 ≡ cond (is_ready (thread_in x u).place) 1 0 =
            ap (λ (p : Place). cond (is_ready p) 1 0) (put-other x t place.Ready made u apart) in
            omega (arith, is.once u, none, still)
      ];
      each = λ k. elim (cases_eq k (rank_in x t)) [
        | inl at ↦
            let here : has_rank y k l ≡ true = eq-eqb (rank_in y l.thread) k (ap (rank_in y) names ∙ ranks t ∙ sym at) in
            ap (row_stack new) at ∙ put.here ∙ ap (λ n. row_stack row n ++ t ∷ []) (sym at) ∙ ap (λ xs. xs ++ t ∷ []) (is.each k ∙ sym (same k))
            ∙ ap (λ (v : ThreadNo). of_rank y k ls ++ v ∷ []) (sym names) ∙ sym (of-push y k ls l ∙ ap (λ b. of_rank y k ls ++ cond b (l.thread ∷ []) []) here)
        | inr apart ↦
            let other : has_rank y k l ≡ false = ne_eqb (rank_in y l.thread) k (λ e. apart (sym e ∙ ap (rank_in y) names ∙ ranks t)) in
            put.others k apart ∙ is.each k ∙ sym (same k)
            ∙ sym (of-push y k ls l ∙ ap (λ b. of_rank y k ls ++ cond b (l.thread ∷ []) []) other ∙ append-nil (of_rank y k ls))
      ];
    }

-- one listed thread less
count-less : (t u : ThreadNo) (ls : List Listed) → times_in u (filter (is_other_thread t) ls) ≡ cond (u.0 == t.0) 0 (times_in u ls)
count-less t u [] = by (u.0 == t.0) where
  by : (b : Bool) → 0 ≡ cond {A = ℕ} b 0 0
  by true = refl
  by false = refl
count-less t u (l ∷ ls) = elim (cases_eq l.thread.0 t.0) [
  | inl at ↦
      let gone : is_other_thread t l ≡ false = ap not (eq-eqb l.thread.0 t.0 at) in
      ap (λ b. times_in u (cond b (l ∷ less) less)) gone
      ∙ lost (u.0 == t.0) (λ h. elim (cases_eq u.0 t.0) [
        | inl same ↦ absurd (let clash = sym h ∙ eq-eqb u.0 t.0 same in cc)
        | inr apart ↦ ap (λ b. cond b 1 0) (ne_eqb l.thread.0 u.0 (λ e. apart (sym e ∙ at)))
      ]) (count-less t u ls)
  | inr other ↦
      let stays : is_other_thread t l ≡ true = ap not (ne_eqb l.thread.0 t.0 other) in
      ap (λ b. times_in u (cond b (l ∷ less) less)) stays
      ∙ kept (u.0 == t.0) (λ h. ap (λ b. cond b 1 0) (ne_eqb l.thread.0 u.0 (λ e. other (e ∙ eqb-true u.0 t.0 h)))) (count-less t u ls)
]
  where
    less : List Listed
    less = filter (is_other_thread t) ls

    one : ℕ
    one = cond (is_listed u l) 1 0

    lost : (c : Bool) → (c ≡ false → one ≡ 0) → times_in u less ≡ cond c 0 (times_in u ls) → times_in u less ≡ cond c 0 (one + times_in u ls)
    lost true none rest = rest
    lost false none rest = omega (arith, none refl, rest)

    kept : (c : Bool) → (c ≡ true → one ≡ 0) → times_in u less ≡ cond c 0 (times_in u ls) → one + times_in u less ≡ cond c 0 (one + times_in u ls)
    kept true none rest = omega (arith, none refl, rest)
    kept false none rest = ap (λ n. one + n) rest

of-less : (x : SpaceState) (k : ℕ) (t : ThreadNo) (ls : List Listed) → of_rank x k (filter (is_other_thread t) ls) ≡ filter (is_other t) (of_rank x k ls)
of-less x k t [] = refl
of-less x k t (l ∷ ls) = elim (cases_Bool (is_other t l.thread)) [
  | inl stays ↦ ap (λ b. of_rank x k (cond b (l ∷ less) less)) stays ∙ kept (has_rank x k l) (of-less x k t ls) stays
  | inr gone ↦ ap (λ b. of_rank x k (cond b (l ∷ less) less)) gone ∙ lost (has_rank x k l) (of-less x k t ls) gone
]
  where
    less : List Listed
    less = filter (is_other_thread t) ls

    kept : (b : Bool) → of_rank x k less ≡ filter (is_other t) (of_rank x k ls) → is_other t l.thread ≡ true
        → map thread_of (cond b (l ∷ filter (has_rank x k) less) (filter (has_rank x k) less))
        ≡ filter (is_other t) (map thread_of (cond b (l ∷ filter (has_rank x k) ls) (filter (has_rank x k) ls)))
    kept true rest stays =
        ap (λ xs. l.thread ∷ xs) rest
        ∙ ap (λ b. cond b (l.thread ∷ filter (is_other t) (of_rank x k ls)) (filter (is_other t) (of_rank x k ls))) (sym stays)
    kept false rest stays = rest

    lost : (b : Bool) → of_rank x k less ≡ filter (is_other t) (of_rank x k ls) → is_other t l.thread ≡ false
        → of_rank x k less ≡ filter (is_other t) (map thread_of (cond b (l ∷ filter (has_rank x k) ls) (filter (has_rank x k) ls)))
    lost true rest gone =
        rest ∙ ap (λ b. cond b (l.thread ∷ filter (is_other t) (of_rank x k ls)) (filter (is_other t) (of_rank x k ls))) (sym gone)
    lost false rest gone = rest

-- of another rank
of-other : (x : SpaceState) (k : ℕ) (t : ThreadNo) (ls : List Listed) → k ≢ rank_in x t → filter (is_other t) (of_rank x k ls) ≡ of_rank x k ls
of-other x k t [] apart = refl
of-other x k t (l ∷ ls) apart = elim (cases_Bool (has_rank x k l)) [
  | inl has ↦
      let off : is_other t l.thread ≡ true =
      ap not (ne_eqb l.thread.0 t.0 (λ e. apart (sym (eqb-true (rank_in x l.thread) k has) ∙ ap (λ n. (get_or x.threads n nobody).program) e))) in
      ap (λ b. filter (is_other t) (map thread_of (cond b (l ∷ some) some))) has
      ∙ ap (λ b. cond b (l.thread ∷ filter (is_other t) (map thread_of some)) (filter (is_other t) (map thread_of some))) off
      ∙ ap (λ xs. l.thread ∷ xs) (of-other x k t ls apart)
      ∙ sym (ap (λ b. map thread_of (cond b (l ∷ some) some)) has)
  | inr other ↦
      ap (λ b. filter (is_other t) (map thread_of (cond b (l ∷ some) some))) other ∙ of-other x k t ls apart
      ∙ sym (ap (λ b. map thread_of (cond b (l ∷ some) some)) other)
]
  where
    some : List Listed
    some = filter (has_rank x k) ls

-- of threads that have one at most once
abbrev counts : ThreadNo → List ThreadNo → ℕ
counts t [] = 0
counts t (u ∷ us) = cond (u.0 == t.0) 1 0 + counts t us

counts-at : (t : ThreadNo) (xs : List ThreadNo) (n : ℕ) → is_newest t (slice_get xs n) ≡ true → 1 ≤ counts t xs
counts-at t [] n at = absurd cc
counts-at t (x ∷ xs) zero at = let one : cond {A = ℕ} (x.0 == t.0) 1 0 ≡ 1 = ap (λ b. cond b 1 0) at in omega (arith, one)
counts-at t (x ∷ xs) (suc n) at = let more = counts-at t xs n at in omega (arith, more)

last-less : (t : ThreadNo) (xs : List ThreadNo) (n : ℕ) → length xs ≡ suc n → is_newest t (slice_get xs n) ≡ true → counts t xs ≤ 1
    → take n xs ≡ filter (is_other t) xs
last-less t (x ∷ []) zero size at few = sym (ap (λ b. cond (not b) (x ∷ []) []) at)
last-less t (x ∷ y ∷ ys) (suc n) size at few =
    let more = counts-at t (y ∷ ys) n at in
    elim (cases_Bool (x.0 == t.0)) [
      | inl same ↦
          let one : cond {A = ℕ} (x.0 == t.0) 1 0 ≡ 1 = ap (λ b. cond b 1 0) same in absurd (omega (arith, one, more, few))
      | inr other ↦
          ap (λ zs. x ∷ zs) (last-less t (y ∷ ys) n (omega arith) at (omega (arith, few)))
          ∙ sym (ap (λ b. cond (not b) (x ∷ filter (is_other t) (y ∷ ys)) (filter (is_other t) (y ∷ ys))) other)
    ]
last-less t _ _ size at few = absurd (omega arith)

pub without-is : (t : ThreadNo) (xs : List ThreadNo) → counts t xs ≤ 1 → without t xs ≡ filter (is_other t) xs
without-is t [] few = refl
without-is t (x ∷ xs) few = elim (cases_Bool (is_newest t (newest (x ∷ xs)))) [
  | inl at ↦
      ap (λ b. if b then take (length (x ∷ xs) - 1) (x ∷ xs) else filter (is_other t) (x ∷ xs)) at
      ∙ last-less t (x ∷ xs) (length (x ∷ xs) - 1) (omega arith) at few
  | inr other ↦ ap (λ b. if b then take (length (x ∷ xs) - 1) (x ∷ xs) else filter (is_other t) (x ∷ xs)) other
]

counts-of : (x : SpaceState) (k : ℕ) (t : ThreadNo) (ls : List Listed) → counts t (of_rank x k ls) ≤ times_in t ls
counts-of x k t [] = omega arith
counts-of x k t (l ∷ ls) = by (has_rank x k l) (counts-of x k t ls) where
  by : (b : Bool) → counts t (of_rank x k ls) ≤ times_in t ls
      → counts t (map thread_of (cond b (l ∷ filter (has_rank x k) ls) (filter (has_rank x k) ls))) ≤ times_in t (l ∷ ls)
  by true rest = omega (arith, rest)
  by false rest = omega (arith, rest)

pub ranked-run : (x : SpaceState) (ls : List Listed) (row new : List (List ThreadNo)) (t : ThreadNo) (p : ProcNo) → is_ready (thread_in x t).place ≡ true
    → t.0 < length x.threads → IsRanked x ls row → HasPut row (rank_in x t) (without t (row_stack row (rank_in x t))) new
    → IsRanked (put_thread (place.Running p) x t) (filter (is_other_thread t) ls) new
ranked-run x ls row new t p was made is put =
    let to = place.Running p in
    let y = put_thread to x t in
    let ranks = put-rank x t to made in
    let less = filter (is_other_thread t) ls in
    let same : (k : ℕ) → of_rank y k less ≡ of_rank x k less = λ k. of-same x y k less (λ u some. ranks u) in
    record {
      once = λ u. count-less t u ls ∙ elim (cases_eq u.0 t.0) [
        | inl at ↦
            ap (λ b. cond b 0 (times_in u ls)) (eq-eqb u.0 t.0 at)
            ∙ sym (ap (λ (q : Place). cond (is_ready q) 1 0) (put-here x t to made u at))
        | inr apart ↦
            ap (λ b. cond b 0 (times_in u ls)) (ne_eqb u.0 t.0 apart) ∙ is.once u
            ∙ sym (ap (λ (q : Place). cond (is_ready q) 1 0) (put-other x t to made u apart))
      ];
      each = λ k. elim (cases_eq k (rank_in x t)) [
        | inl at ↦
            let few : counts t (of_rank x k ls) ≤ 1 =
            let once = is.once t ∙ ap (λ b. cond b 1 0) was in omega (arith, counts-of x k t ls, once) in
            ap (row_stack new) at ∙ put.here ∙ ap (λ n. without t (row_stack row n)) (sym at) ∙ ap (without t) (is.each k)
            ∙ without-is t (of_rank x k ls) few ∙ sym (of-less x k t ls) ∙ sym (same k)
        | inr apart ↦ put.others k apart ∙ is.each k ∙ sym (of-other x k t ls apart) ∙ sym (of-less x k t ls) ∙ sym (same k)
      ];
    }
