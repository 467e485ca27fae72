-- Numbers that are put one after another into a list.
use Rattle.std.proofs.Common.{◌≡◌, ℕ, zero, suc, ◌+◌, ◌<◌, ◌≤◌, List, [], ◌∷◌, ◌++◌, length, get_or, set, take, drop, refl, sym, ap, ◌∙◌, arith, append_assoc, add-one}
use Rattle.std.proofs.Math.Seq.{take-suc, take-length}
use Rattle.std.proofs.lemmas.List.{get_or-map, length-map, append-nil, length-set, get_or-set_same, set-get_or, take-append-drop, set-set}
use Rattle.sa_base.specs.declared.number.ThreadNo.{ThreadNo}
use Rattle.sa_virtual.specs.Holding.{numbers}
use Rattle.sa_links.specs.Lists.{Lists, list_at, with_list, count_in, count_in_all}
use Rattle.sa_links.proofs.Counting.{count_same, count_set, count-append}

-- the numbers of threads
pub numbers_many : (ts : List ThreadNo) → length (numbers ts) ≡ length ts
numbers_many ts = length-map ts (λ (t : ThreadNo). t.0)

pub numbers_at : (ts : List ThreadNo) (i : ℕ) (d : ThreadNo) → i < length ts → get_or (numbers ts) i 0 ≡ (get_or ts i d).0
numbers_at ts i d inside = get_or-map (λ (t : ThreadNo). t.0) ts i d 0 inside

drop_at : (xs : List ℕ) (i : ℕ) → i < length xs → drop i xs ≡ get_or xs i 0 ∷ drop (suc i) xs
drop_at [] i inside = absurd (omega (arith, inside))
drop_at (x ∷ xs) zero inside = refl
drop_at (x ∷ xs) (suc i) inside = drop_at xs i (omega (arith, inside))

-- the first i of them are there
abbrev pub filled : Lists → ℕ → List ℕ → ℕ → Lists
filled c l xs i = with_list c l (list_at c.lists l ++ take i xs)

module _ (c : Lists) (l : ℕ) (xs : List ℕ) (inside : l < length c.lists) where
  pub none : c ≡ filled c l xs 0
  none = ap (λ ls. record { nodes = c.nodes; lists = ls }) (sym (ap (set c.lists l) (append-nil (list_at c.lists l)) ∙ set-get_or c.lists l []))

  pub many : (i : ℕ) → length (filled c l xs i).lists ≡ length c.lists
  many i = length-set c.lists l (list_at c.lists l ++ take i xs)

  pub free : (i u : ℕ) → i < length xs → u ≡ get_or xs i 0 → count_in_all u c.lists + count_in u xs ≤ 1 → count_in_all u (filled c l xs i).lists ≡ 0
  free i u below is once =
      let parts = ap (count_in u) (take-append-drop i xs) in
      let two = count-append u (take i xs) (drop i xs) in
      let head = ap (count_in u) (drop_at xs i below) in
      let one = count_same u (get_or xs i 0) (drop (suc i) xs) (sym is) in
      omega (arith, parts, two, head, one, once, count_set u c.lists l (list_at c.lists l ++ take i xs) inside, count-append u (list_at c.lists l) (take i xs))

  pub more : (i u : ℕ) → i < length xs → u ≡ get_or xs i 0 → with_list (filled c l xs i) l (list_at (filled c l xs i).lists l ++ u ∷ []) ≡ filled c l xs (i + 1)
  more i u below is =
      let here = get_or-set_same c.lists l (list_at c.lists l ++ take i xs) [] inside in
      let next = take-suc xs i 0 below in
      ap (λ ls. record { nodes = c.nodes; lists = ls })
      (set-set c.lists l (list_at c.lists l ++ take i xs) (list_at (filled c l xs i).lists l ++ u ∷ [])
      ∙ ap (λ ys. set c.lists l (ys ++ u ∷ [])) here
      ∙ ap (set c.lists l) (append_assoc (list_at c.lists l) (take i xs) (u ∷ []) ∙ ap (λ v. list_at c.lists l ++ (take i xs ++ v ∷ [])) is
      ∙ ap (λ ys. list_at c.lists l ++ ys) (sym next) ∙ ap (λ k. list_at c.lists l ++ take k xs) (sym (add-one i))))

  pub all : (i : ℕ) → i ≡ length xs → filled c l xs i ≡ with_list c l (list_at c.lists l ++ xs)
  all i is = ap (λ k. with_list c l (list_at c.lists l ++ take k xs)) is ∙ ap (λ ys. with_list c l (list_at c.lists l ++ ys)) (take-length xs)

  pub among : (i u : ℕ) → i < length xs → u ≡ get_or xs i 0 → 1 ≤ count_in u xs
  among i u below is =
      let parts = ap (count_in u) (take-append-drop i xs) in
      let two = count-append u (take i xs) (drop i xs) in
      let head = ap (count_in u) (drop_at xs i below) in
      let one = count_same u (get_or xs i 0) (drop (suc i) xs) (sym is) in
      omega (arith, parts, two, head, one)
