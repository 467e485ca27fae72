-- A work list that is the only one with threads is emptied, thread by thread.
use Rattle.std.proofs.Common.{◌≡◌, ◌≢◌, ℕ, ◌+◌, ◌≤◌, ◌<◌, List, [], ◌∷◌, ◌++◌, length, drop, replicate, Option, Some, None, slice_get, slice_set, refl, sym, ap, ◌∙◌, inl, inr, arith}
use Rattle.std.proofs.lemmas.Bool.{cases_lt}
use Rattle.std.proofs.lemmas.List.{ext_get_or, get_or-set_same, get_or-set_other, get_or_past, get_or-replicate, length-set, length-replicate}
use Rattle.sa_base.specs.declared.number.ThreadNo.{ThreadNo}
use Rattle.sa_base.specs.declared.limits.TheConstants.{MAX_THREADS}
use Rattle.sa_links.specs.Lists.{list_at, count_in}
use Rattle.sa_links.proofs.Counting.{count_at}
use Rattle.sa_lemmas.proofs.ListReads.{empty-first}
use Rattle.sa_fast.specs.Work.{work_of, renamed, without_first, IsWork}
use Rattle.sa_fast.specs.Rest.{one_if, one_of, one_if_empty, empty_at}
use Rattle.sa_fast.proofs.WorkSteps.{one_same, one_other, count_one, not_empty, without_first-step}
use Rattle.sa_driven_model.specs.Conditions.{IsAlone}

nothing : (xs : List ℕ) → one_if_empty xs ≡ 1 → xs ≡ []
nothing [] e = refl
nothing (x ∷ xs) e = absurd cc

one_begins : (xs : List ℕ) (n : ℕ) → ((y : ℕ) → slice_get xs 0 ≡ Some y → y ≡ n) → 1 ≤ length xs → xs ≡ n ∷ drop 1 xs
one_begins [] n first some = absurd (omega arith)
one_begins (x ∷ xs) n first some = ap (λ y. y ∷ xs) (first x refl)

second_counts : (xs : List ℕ) (t n : ℕ) → xs ≡ t ∷ drop 1 xs → slice_get (drop 1 xs) 0 ≡ Some n → t ≡ n → 2 ≤ count_in n xs
second_counts xs t n is e same = two (drop 1 xs) e (ap (count_in n) is ∙ count_one n t (drop 1 xs)) where
  two : (ys : List ℕ) → slice_get ys 0 ≡ Some n → count_in n xs ≡ one_if t n + count_in n ys → 2 ≤ count_in n xs
  two [] none sum = absurd cc
  two (y ∷ ys) first sum =
      let is_n : y ≡ n = some_is y n first in
      omega (arith, sum, count_one n y ys, one_same y n is_n, one_same t n same) where
        some_is : (a b : ℕ) → slice_get (a ∷ ys) 0 ≡ Some b → a ≡ b
        some_is a b e = cc

module _ (works : List (List ℕ)) (w : Option ThreadNo) (h : IsAlone works w) where
  -- all others are empty
  empty_other : (l : ℕ) → one_of w l ≡ 0 → list_at works l ≡ []
  empty_other l none = nothing (list_at works l) (omega (arith, h.names l, none))

-- its name
pub alone_work : (works : List (List ℕ)) (w : Option ThreadNo) → IsAlone works w → IsWork works w
alone_work works None h = tt
alone_work works (Some n) h =
    let empty : empty_at works n.0 ≡ 0 = omega (arith, h.names n.0, one_same n.0 n.0 refl) in
    let some : 1 ≤ length (list_at works n.0) = not_empty (list_at works n.0) empty in
    let below : n.0 < MAX_THREADS = elim (cases_lt n.0 (length works)) [
      | inl inside ↦ omega (arith, inside, h.works.named.all)
      | inr past ↦ absurd (let none : list_at works n.0 ≡ [] = get_or_past works n.0 [] past in let zero : length (list_at works n.0) ≡ 0 = ap length none in
          omega (arith, some, zero))
    ] in
    (below, some)

-- ALL IS OVER
pub drained : (works : List (List ℕ)) → IsAlone works None → works ≡ replicate MAX_THREADS []
drained works h =
    let none : List ℕ = [] in
    ext_get_or none works (replicate MAX_THREADS none) (h.works.named.all ∙ sym (length-replicate MAX_THREADS none))
    (λ i inside. empty_other works None h i refl ∙ sym (get_or-replicate MAX_THREADS i none none (omega (arith, inside, h.works.named.all))))

-- ONE THREAD is taken out
module _ (works : List (List ℕ)) (t : ThreadNo) (h : IsAlone works (Some t)) where
  work : IsWork works (Some t)
  work = alone_work works (Some t) h

  pub queue : list_at works t.0 ≡ t.0 ∷ drop 1 (list_at works t.0)
  queue = one_begins (list_at works t.0) t.0 (λ y e. h.works.named.first t.0 y e) work.1

  abbrev left : List (List ℕ)
  left = slice_set works t.0 (drop 1 (list_at works t.0))

  inside_t : t.0 < length works
  inside_t = omega (arith, h.works.named.all, work.0)

  left_t : list_at left t.0 ≡ drop 1 (list_at works t.0)
  left_t = get_or-set_same works t.0 (drop 1 (list_at works t.0)) [] inside_t

  pub less_alone : IsAlone (without_first works t).lists (without_first works t).name
  less_alone =
      let step = without_first-step works t h.works work in
      record { works = step.works; names = λ l. omega (arith, step.names l, h.names l) }

  rest_by : (next : Option ℕ) → slice_get (list_at left t.0) 0 ≡ next
      → work_of (renamed left t.0 next).lists (renamed left t.0 next).name ≡ drop 1 (list_at works t.0)
  rest_by None e = sym (empty-first (drop 1 (list_at works t.0)) (ap (λ xs. slice_get xs 0) (sym left_t) ∙ e))
  rest_by (Some n) e =
      let first : slice_get (drop 1 (list_at works t.0)) 0 ≡ Some n = ap (λ xs. slice_get xs 0) (sym left_t) ∙ e in
      let apart : t.0 ≢ n = λ same.
      absurd (let two = second_counts (list_at works t.0) t.0 n queue first same in omega (arith, two, count_at n works t.0, h.works.once n)) in
      let none : list_at left n ≡ [] =
      get_or-set_other works t.0 n (drop 1 (list_at works t.0)) [] (λ e. apart (sym e)) ∙ empty_other works (Some t) h n (one_other t.0 n apart) in
      let below : n < length left = elim (cases_lt n MAX_THREADS) [
        | inl b ↦ omega (arith, b, length-set works t.0 (drop 1 (list_at works t.0)), h.works.named.all)
        | inr past ↦ absurd (let some : 1 ≤ count_in n (list_at works t.0) = one_in (drop 1 (list_at works t.0)) first (ap (count_in n) queue ∙ count_one n t.0 (drop 1 (list_at works t.0))) in
            let b = h.works.below n (omega (arith, some, count_at n works t.0)) in omega (arith, b, past))
      ] in
      let mid : List (List ℕ) = slice_set left n (list_at left n ++ list_at left t.0) in
      get_or-set_other mid t.0 n [] [] (λ e. apart (sym e)) ∙ get_or-set_same left n (list_at left n ++ list_at left t.0) [] below
      ∙ ap (λ xs. xs ++ list_at left t.0) none ∙ left_t where
        one_in : (ys : List ℕ) → slice_get ys 0 ≡ Some n → count_in n (list_at works t.0) ≡ one_if t.0 n + count_in n ys → 1 ≤ count_in n (list_at works t.0)
        one_in [] none sum = absurd cc
        one_in (y ∷ ys) first sum = let is_n : y ≡ n = cc in omega (arith, sum, count_one n y ys, one_same y n is_n)

  pub less_rest : work_of (without_first works t).lists (without_first works t).name ≡ drop 1 (list_at works t.0)
  less_rest = rest_by (slice_get (list_at left t.0) 0) refl
