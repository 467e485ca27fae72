-- What an instruction puts into the empty work list is what is in it then.
use Rattle.std.proofs.Common.{◌≡◌, ℕ, ◌≤◌, ◌<◌, List, [], ◌∷◌, ◌++◌, length, Some, None, slice_get, slice_set, refl, sym, ap, ◌∙◌, inl, inr, arith, append-nil, append_assoc}
use Rattle.std.proofs.lemmas.Bool.{cases_lt}
use Rattle.std.proofs.lemmas.List.{get_or-set_same, get_or_past, length-set, set-set, set-get_or}
use Rattle.sa_base.specs.declared.number.ThreadNo.{ThreadNo}
use Rattle.sa_links.proofs.Counting.{count-append, count_same, count_at}
use Rattle.sa_links.specs.Lists.{list_at, count_in}
use Rattle.sa_fast.proofs.Moves.{WorkStep}
use Rattle.sa_fast.proofs.WorkSteps.{one_same}
use Rattle.sa_fast.specs.Rest.{one_of, one_if_empty, empty_at}
use Rattle.sa_fast.specs.Work.{Work, work_of, with_name, added_all}

put_all : (ls : List (List ℕ)) (n : ThreadNo) (ts : List ℕ) → n.0 < length ls
    → added_all (with_name ls (Some n)) ts ≡ with_name (slice_set ls n.0 (list_at ls n.0 ++ ts)) (Some n)
put_all ls n [] inside = ap (λ xs. with_name xs (Some n)) (sym (ap (slice_set ls n.0) (append-nil (list_at ls n.0)) ∙ set-get_or ls n.0 []))
put_all ls n (t ∷ ts) inside =
    let first = slice_set ls n.0 (list_at ls n.0 ++ t ∷ []) in
    let size : length first ≡ length ls = length-set ls n.0 (list_at ls n.0 ++ t ∷ []) in
    put_all first n ts (omega arith)
    ∙ ap (λ xs. with_name (slice_set first n.0 (xs ++ ts)) (Some n)) (get_or-set_same ls n.0 (list_at ls n.0 ++ t ∷ []) [] inside)
    ∙ ap (λ xs. with_name xs (Some n)) (set-set ls n.0 (list_at ls n.0 ++ t ∷ []) ((list_at ls n.0 ++ t ∷ []) ++ ts))
    ∙ ap (λ xs. with_name (slice_set ls n.0 xs) (Some n)) (append_assoc (list_at ls n.0) (t ∷ []) ts)

-- a list that begins with the thread of its number, and has it once, had nothing before it
alone : (xs : List ℕ) (t : ℕ) (ts : List ℕ) → ((y : ℕ) → slice_get (xs ++ t ∷ ts) 0 ≡ Some y → y ≡ t) → count_in t (xs ++ t ∷ ts) ≤ 1 → xs ≡ []
alone [] t ts first once = refl
alone (x ∷ xs) t ts first once = absurd (
    let same = first x refl in let here = count_same t x (xs ++ t ∷ ts) same in
    let rest = count-append t xs (t ∷ ts) in let one = count_same t t ts refl in omega arith)

pub gained-all : (ls : List (List ℕ)) (ts : List ℕ) (new : Work) (gained : ℕ → ℕ) → added_all (with_name ls None) ts ≡ new
    → WorkStep (with_name ls None) new (λ u. 0) gained → (n : ℕ) → count_in n (work_of new.lists new.name) ≡ count_in n ts
gained-all ls [] new gained is step n = ap (λ (w : Work). count_in n (work_of w.lists w.name)) (sym is)
gained-all ls (t ∷ ts) new gained is step n = elim (cases_lt t (length ls)) [
  | inr past ↦ absurd (
      let name : ThreadNo = record { 0 = t } in
      let named = step.names t in
      let is_name : one_of new.name t ≡ 1 = ap (λ (w : Work). one_of w.name t) (sym is ∙ keeps_name ls name ts) ∙ one_same t t refl in
      let empty : empty_at ls t ≡ 1 = ap one_if_empty (get_or_past ls t [] past) in
      let none : one_of None t ≡ 0 = refl in
      let size : length new.lists ≡ length ls = ap (λ (w : Work). length w.lists) (sym is) ∙ keeps_length ls name ts in
      let gone : empty_at new.lists t ≡ 1 = ap one_if_empty (get_or_past new.lists t [] (omega arith)) in omega arith)
  | inl inside ↦
      let name : ThreadNo = record { 0 = t } in
      let first = slice_set ls t (list_at ls t ++ t ∷ []) in
      let size : length first ≡ length ls = length-set ls t (list_at ls t ++ t ∷ []) in
      let all : new ≡ with_name (slice_set first t (list_at first t ++ ts)) (Some name) = sym is ∙ put_all first name ts (omega arith) in
      let list : list_at new.lists t ≡ list_at ls t ++ t ∷ ts =
      ap (λ (w : Work). list_at w.lists t) all ∙ get_or-set_same first t (list_at first t ++ ts) [] (omega arith)
      ∙ ap (λ xs. xs ++ ts) (get_or-set_same ls t (list_at ls t ++ t ∷ []) [] inside) ∙ append_assoc (list_at ls t) (t ∷ []) ts in
      let none : list_at ls t ≡ [] = alone (list_at ls t) t ts
      (λ y e. step.works.named.first t y (ap (λ xs. slice_get xs 0) list ∙ e))
      (let once = step.works.once t in let less = count_at t new.lists t in let same = ap (count_in t) list in omega arith) in
      ap (λ (w : Work). count_in n (work_of new.lists w.name)) all ∙ ap (count_in n) (list ∙ ap (λ xs. xs ++ t ∷ ts) none)
] where
  more_name : (w : List (List ℕ)) (m : ThreadNo) (xs : List ℕ) → (added_all (with_name w (Some m)) xs).name ≡ Some m
  more_name w m [] = refl
  more_name w m (x ∷ xs) = more_name (slice_set w m.0 (list_at w m.0 ++ x ∷ [])) m xs

  more_length : (w : List (List ℕ)) (m : ThreadNo) (xs : List ℕ) → length (added_all (with_name w (Some m)) xs).lists ≡ length w
  more_length w m [] = refl
  more_length w m (x ∷ xs) = more_length (slice_set w m.0 (list_at w m.0 ++ x ∷ [])) m xs ∙ length-set w m.0 (list_at w m.0 ++ x ∷ [])

  keeps_name : (w : List (List ℕ)) (m : ThreadNo) (xs : List ℕ)
      → added_all (with_name w None) (m.0 ∷ xs) ≡ with_name (added_all (with_name w None) (m.0 ∷ xs)).lists (Some m)
  keeps_name w m xs = ap (with_name (added_all (with_name w None) (m.0 ∷ xs)).lists) (more_name (slice_set w m.0 (list_at w m.0 ++ m.0 ∷ [])) m xs)

  keeps_length : (w : List (List ℕ)) (m : ThreadNo) (xs : List ℕ) → length (added_all (with_name w None) (m.0 ∷ xs)).lists ≡ length w
  keeps_length w m xs = more_length (slice_set w m.0 (list_at w m.0 ++ m.0 ∷ [])) m xs ∙ length-set w m.0 (list_at w m.0 ++ m.0 ∷ [])
