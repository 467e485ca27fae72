-- Searches among the numbers of lists.
use Rattle.std.proofs.Common.{◌≡◌, ℕ, ◌+◌, ◌-◌, ◌<◌, Bool, true, false, not, ltb, cond, List, [], ◌∷◌, ◌++◌, length, find, Option, Some, None, refl, sym, ap, ◌∙◌, subst, inl, inr, arith, add-one}
use Rattle.std.specs.List.{range_with_len}
use Rattle.std.specs.Option.{option_map, option_or}
use Rattle.std.proofs.lemmas.Bool.{cases_lt, le-ltb, and_right}
use Rattle.std.proofs.lemmas.List.{get_or_past}
use Rattle.std.proofs.lemmas.List.Folds.{find-append}
use Rattle.std.proofs.lemmas.List.Sums.{get_or-le-sum_by}
use Rattle.sa_base.specs.declared.number.ProcNo.{ProcNo}
use Rattle.sa_lists.specs.ReadyView.{ReadyView, processor, list_of, ready_count, is_locked, is_open, numbers_round, sought}

-- a search from n on looks at n first
find-range : (p : ℕ → Bool) (n m : ℕ) → n < m → find p (range_with_len n (m - n)) ≡ cond (p n) (Some n) (find p (range_with_len (n + 1) (m - (n + 1))))
find-range p n m h = let e : m - n ≡ (m - (n + 1)) + 1 = omega arith in ap (λ k. find p (range_with_len n k)) (e ∙ add-one (m - (n + 1)))

pub find-range_here : (p : ℕ → Bool) (n m : ℕ) → n < m → p n ≡ true → find p (range_with_len n (m - n)) ≡ Some n
find-range_here p n m h e = find-range p n m h ∙ ap (λ b. cond b (Some n) (find p (range_with_len (n + 1) (m - (n + 1))))) e

pub find-range_behind : (p : ℕ → Bool) (n m : ℕ) → n < m → p n ≡ false → find p (range_with_len n (m - n)) ≡ find p (range_with_len (n + 1) (m - (n + 1)))
find-range_behind p n m h e = find-range p n m h ∙ ap (λ b. cond b (Some n) (find p (range_with_len (n + 1) (m - (n + 1))))) e

-- a search of two lists finds what the first has, or else what the second has
pub find-append_some : {A : Type 0} (p : ℕ → Bool) (f : ℕ → A) (xs ys : List ℕ) (x : A) → Some x ≡ option_map f (find p xs)
    → Some x ≡ option_map f (find p (xs ++ ys))
find-append_some p f xs ys x e =
    rw find-append (elim (find p xs) as (λ o. Some x ≡ option_map f o
    → Some x ≡ option_map f (option_or o (find p ys))) [ None ↦ λ h. absurd cc | Some y ↦ λ h. h ] e)

pub find-append_none : {A : Type 0} (p : ℕ → Bool) (f : ℕ → A) (xs ys : List ℕ) (o : Option A) → None ≡ option_map f (find p xs)
    → o ≡ option_map f (find p ys) → o ≡ option_map f (find p (xs ++ ys))
find-append_none {A} p f xs ys o e second =
    rw find-append (elim (find p xs) as (λ (q : Option ℕ). None ≡ option_map f q
    → o ≡ option_map f (option_or q (find p ys))) [ None ↦ λ h. second | Some y ↦ λ h. absurd cc ] e)

-- what `seek` finds among the lists from p on, or else among those before p
pub sought_some : (r : ReadyView) (p n : ℕ) (x : ProcNo) → n ≡ length r.lists → Some x ≡ option_map processor (find (is_open r) (range_with_len p (n - p)))
    → Some x ≡ option_map processor (sought r p)
sought_some r p n x e found =
    find-append_some (is_open r) processor (range_with_len p (length r.lists - p)) (range_with_len 0 p) x
    (subst (λ m. Some x ≡ option_map processor (find (is_open r) (range_with_len p (m - p)))) e found)

pub sought_none : (r : ReadyView) (p n : ℕ) (o : Option ProcNo) → n ≡ length r.lists → None ≡ option_map processor (find (is_open r) (range_with_len p (n - p)))
    → o ≡ option_map processor (find (is_open r) (range_with_len 0 (p - 0))) → o ≡ option_map processor (sought r p)
sought_none r p n o e none second =
    find-append_none (is_open r) processor (range_with_len p (length r.lists - p)) (range_with_len 0 p) o
    (subst (λ m. None ≡ option_map processor (find (is_open r) (range_with_len p (m - p)))) e none) (let zero : p - 0 ≡ p = omega arith in
    subst (λ k. o ≡ option_map processor (find (is_open r) (range_with_len 0 k))) zero second)

-- where no thread is ready, each list is empty, none is open, and `seek` finds none
none_ready-empty : (r : ReadyView) (l : ℕ) → ready_count r ≡ 0 → length (list_of r l) ≡ 0
none_ready-empty r l none = elim (cases_lt l (length r.lists)) [
  | inl inside ↦ let part = get_or-le-sum_by length r.lists l [] inside in omega arith
  | inr past ↦ ap length (get_or_past r.lists l [] past)
]

find-nowhere : (p : ℕ → Bool) (xs : List ℕ) → ((k : ℕ) → p k ≡ false) → find p xs ≡ None
find-nowhere p [] fails = refl
find-nowhere p (x ∷ xs) fails = ap (λ b. cond b (Some x) (find p xs)) (fails x) ∙ find-nowhere p xs fails

pub sought_nowhere : (r : ReadyView) (p : ℕ) → ready_count r ≡ 0 → None ≡ option_map processor (sought r p)
sought_nowhere r p none = ap (option_map processor) (sym (find-nowhere (is_open r) (numbers_round (length r.lists) p) shut)) where
  shut : (l : ℕ) → is_open r l ≡ false
  shut l =
      let empty = none_ready-empty r l none in
      and_right (not (is_locked r l)) (ltb 0 (length (list_of r l))) (le-ltb 0 (length (list_of r l)) (omega arith))
