-- Tables that are lists, and functions of a number.
use Rattle.std.proofs.Common.{◌≡◌, ◌≢◌, ℕ, suc, ◌+◌, ◌-◌, ◌<◌, ◌≤◌, Bool, true, false, cond, eqb, not, List, [], ◌∷◌, ◌++◌, length, length-append, get_or, set, filter, take, slice_get, Some, inl, inr, refl, sym, ap, subst, ◌∙◌, arith}
use Rattle.std.proofs.Math.Path.{fun_ext}
use Rattle.std.specs.Prelude.{count_by, sum_by, ◌==◌}
use Rattle.std.specs.Option.{option_map}
use Rattle.std.proofs.lemmas.Option.{same_Some}
use Rattle.std.proofs.lemmas.List.Elements.{filter-append}
use Rattle.std.proofs.lemmas.Bool.{cases_eq, ne_eqb, eq-eqb}
use Rattle.std.proofs.lemmas.List.{append-nil, length-set, get_or-set_same, get_or-set_other}
use Rattle.std.proofs.lemmas.List.Sums.{sum_by-cons, sum_by-set}
use Rattle.sa_base.specs.declared.number.ProcNo.{ProcNo}
use Rattle.sa_base.specs.declared.number.SpaceNo.{SpaceNo}
use Rattle.sa_base.specs.declared.number.ThreadNo.{ThreadNo}
use Rattle.sa_links.specs.Lists.{Lists, list_at, with_list, count_in, without}
use Rattle.sa_links.proofs.Counting.{count-append, without_lacked, without_between}
use Rattle.sa_lemmas.specs.Function.{put}
use Rattle.sa_lemmas.proofs.FunctionUpdates.{put-at, put-other}
use Rattle.sa_lemmas.proofs.ListUpdates.{slice_get-append_left, slice_get-append_seam}
use Rattle.sa_laws.specs.Readings.{Listed, is_in}
use Rattle.sa_laws.specs.Record.{is_other_thread}
use Rattle.sa_virtual.specs.Turn.{chosen, has_some}
use Rattle.sa_vp_model.specs.Turn.{picked, left_of, is_some_list}
use Rattle.sa_vp_model.specs.Board.{no_lists, of_space, list_in, with_list_in}
use Rattle.sa_vp_model.specs.Mirror.{AreLists, newest_first, rows, total}

-- one place of a table is another
pub table_put : {A : Type 0} (xs : List A) (i : ℕ) (x d : A) → i < length xs → (λ a. get_or (set xs i x) a d) ≡ put (λ a. get_or xs a d) i x
table_put {A} xs i x d inside = fun_ext (λ a. elim (cases_eq a i) [
  | inl e ↦ ap (λ n. get_or (set xs i x) n d) e ∙ get_or-set_same xs i x d inside ∙ sym (put-at (λ b. get_or xs b d) i a x e)
  | inr ne ↦ get_or-set_other xs i a x d ne ∙ sym (put-other (λ b. get_or xs b d) i a x ne)
])

-- LISTS OF SPACES: one list of one space is another
module _ (processors : ℕ) (spaces : ℕ) (xs : List Lists) (s : SpaceNo) (l : ProcNo) (ys : List ℕ) (many : length xs ≡ spaces) (inside : s.0 < spaces)
    (within : l.0 < processors) where
  abbrev old : Lists
  old = of_space xs s

  abbrev now : List Lists
  now = with_list_in xs s l ys

  here : rows now s.0 ≡ with_list old l.0 ys
  here = get_or-set_same xs s.0 (with_list old l.0 ys) no_lists (omega (arith, many, inside))

  pub lists_with : (of new : ℕ → ℕ → List ℕ) → ((r : ℕ) → r < spaces → AreLists processors (of r) (rows xs r))
      → ((k : ℕ) → k ≡ l.0 → ys ≡ new s.0 k) → ((r k : ℕ) → k < processors → r ≢ s.0 → of r k ≡ new r k)
      → ((k : ℕ) → k < processors → k ≢ l.0 → of s.0 k ≡ new s.0 k)
      → (r : ℕ) → r < spaces → AreLists processors (new r) (rows now r)
  lists_with of new are mine others rest r below = elim (cases_eq r s.0) [
    | inl e ↦
        let was = are s.0 inside in
        subst (λ n. AreLists processors (new n) (rows now n)) (sym e) (subst (AreLists processors (new s.0)) (sym here) (record {
          nodes = was.nodes;
          many = length-set old.lists l.0 ys ∙ was.many;
          each = λ k small. elim (cases_eq k l.0) [
            | inl f ↦ ap (λ n. list_at (set old.lists l.0 ys) n) f ∙ get_or-set_same old.lists l.0 ys [] (omega (arith, within, was.many)) ∙ mine k f
            | inr ne ↦ get_or-set_other old.lists l.0 k ys [] ne ∙ was.each k small ∙ rest k small ne
          ];
        }))
    | inr ne ↦
        let was = are r below in
        subst (AreLists processors (new r)) (sym (get_or-set_other xs s.0 r (with_list old l.0 ys) no_lists ne)) (record {
          nodes = was.nodes;
          many = was.many;
          each = λ k small. was.each k small ∙ others r k small ne;
        })
  ]

  pub many_with : length now ≡ spaces
  many_with = length-set xs s.0 (with_list old l.0 ys) ∙ many

  -- the number of all in the lists changes by as much
  pub total_with : length old.lists ≡ processors → total now + length (list_in xs s l) ≡ total xs + length ys
  total_with size =
      let a : total now + sum_by length old.lists ≡ total xs + sum_by length (set old.lists l.0 ys) =
      sum_by-set (λ (c : Lists). sum_by length c.lists) xs s.0 (with_list old l.0 ys) no_lists (omega (arith, many, inside)) in
      let b : sum_by length (set old.lists l.0 ys) + length (list_in xs s l) ≡ sum_by length old.lists + length ys =
      sum_by-set length old.lists l.0 ys [] (omega (arith, size, within)) in
      omega (arith, a, b)

-- READY THREADS, newest first
newest-cons : (x : Listed) (xs : List Listed) (l : ℕ) (b : Bool) → is_in (record { 0 = l }) x ≡ b
    → newest_first (x ∷ xs) l ≡ cond b (newest_first xs l ++ x.thread.0 ∷ []) (newest_first xs l)
newest-cons x xs l b is = ap (λ c. cond c (newest_first xs l ++ x.thread.0 ∷ []) (newest_first xs l)) is

-- one more
pub newest_own : (xs : List Listed) (x : Listed) (l : ℕ) → x.list.0 ≡ l → newest_first (xs ++ x ∷ []) l ≡ x.thread.0 ∷ newest_first xs l
newest_own [] x l is = newest-cons x [] l true (eq-eqb x.list.0 l is)
newest_own (y ∷ ys) x l is =
    elim (is_in (record { 0 = l }) y) as (λ b. cond b (newest_first (ys ++ x ∷ []) l ++ y.thread.0 ∷ []) (newest_first (ys ++ x ∷ []) l)
    ≡ x.thread.0 ∷ cond b (newest_first ys l ++ y.thread.0 ∷ []) (newest_first ys l)) [
      | true ↦ ap (λ zs. zs ++ y.thread.0 ∷ []) (newest_own ys x l is)
      | false ↦ newest_own ys x l is
    ]

pub newest_other : (xs : List Listed) (x : Listed) (l : ℕ) → x.list.0 ≢ l → newest_first (xs ++ x ∷ []) l ≡ newest_first xs l
newest_other [] x l ne = newest-cons x [] l false (ne_eqb x.list.0 l ne)
newest_other (y ∷ ys) x l ne = ap (λ zs. cond (is_in (record { 0 = l }) y) (zs ++ y.thread.0 ∷ []) zs) (newest_other ys x l ne)

-- one less
pub newest_less : (xs : List Listed) (t : ThreadNo) (l : ℕ) → newest_first (filter (is_other_thread t) xs) l ≡ without t.0 (newest_first xs l)
newest_less [] t l = refl
newest_less (y ∷ ys) t l = go (newest_less ys t l) (eqb y.thread.0 t.0) (is_in (record { 0 = l }) y) refl refl where
  kept : List Listed
  kept = filter (is_other_thread t) ys

  old : List ℕ
  old = newest_first ys l

  alone : (c : Bool) → eqb y.thread.0 t.0 ≡ c → without t.0 (y.thread.0 ∷ []) ≡ cond (not c) (y.thread.0 ∷ []) []
  alone c is = ap (λ b. cond (not b) (y.thread.0 ∷ []) []) is

  left : (b c : Bool) → eqb y.thread.0 t.0 ≡ c → is_in (record { 0 = l }) y ≡ b
      → newest_first (filter (is_other_thread t) (y ∷ ys)) l
      ≡ cond (not c) (cond b (newest_first kept l ++ y.thread.0 ∷ []) (newest_first kept l)) (newest_first kept l)
  left b true mine at = ap (λ c. newest_first (cond (not c) (y ∷ kept) kept) l) mine
  left b false mine at = ap (λ c. newest_first (cond (not c) (y ∷ kept) kept) l) mine ∙ newest-cons y kept l b at

  right : (b c : Bool) → eqb y.thread.0 t.0 ≡ c → is_in (record { 0 = l }) y ≡ b
      → without t.0 (newest_first (y ∷ ys) l) ≡ cond b (without t.0 old ++ cond (not c) (y.thread.0 ∷ []) []) (without t.0 old)
  right true c mine at = ap (without t.0) (newest-cons y ys l true at) ∙ filter-append (λ z. not (eqb z t.0)) old (y.thread.0 ∷ [])
      ∙ ap (λ zs. without t.0 old ++ zs) (alone c mine)
  right false c mine at = ap (without t.0) (newest-cons y ys l false at)

  go : newest_first kept l ≡ without t.0 old → (c b : Bool) → eqb y.thread.0 t.0 ≡ c → is_in (record { 0 = l }) y ≡ b
      → newest_first (filter (is_other_thread t) (y ∷ ys)) l ≡ without t.0 (newest_first (y ∷ ys) l)
  go less true true mine at = left true true mine at ∙ less ∙ sym (append-nil (without t.0 old)) ∙ sym (right true true mine at)
  go less true false mine at = left false true mine at ∙ less ∙ sym (right false true mine at)
  go less false true mine at = left true false mine at ∙ ap (λ zs. zs ++ y.thread.0 ∷ []) (less) ∙ sym (right true false mine at)
  go less false false mine at = left false false mine at ∙ less ∙ sym (right false false mine at)

-- in the order in which they became ready, backwards
abbrev backward : List Listed → List ℕ
backward [] = []
backward (x ∷ xs) = backward xs ++ x.thread.0 ∷ []

newest-backward : (xs : List Listed) (l : ℕ) → newest_first xs l ≡ backward (filter (is_in (record { 0 = l })) xs)
newest-backward [] l = refl
newest-backward (y ∷ ys) l =
    elim (is_in (record { 0 = l }) y) as (λ b. cond b (newest_first ys l ++ y.thread.0 ∷ []) (newest_first ys l)
    ≡ backward (cond b (y ∷ filter (is_in (record { 0 = l })) ys) (filter (is_in (record { 0 = l })) ys))) [
      | true ↦ ap (λ zs. zs ++ y.thread.0 ∷ []) (newest-backward ys l)
      | false ↦ newest-backward ys l
    ]

length-backward : (xs : List Listed) → length (backward xs) ≡ length xs
length-backward [] = refl
length-backward (x ∷ xs) = length-append (backward xs) (x.thread.0 ∷ []) ∙ omega (arith, length-backward xs)

first-backward : (xs : List Listed) → slice_get (backward xs) 0 ≡ option_map (λ (x : Listed). x.thread.0) (slice_get xs (length xs - 1))
first-backward [] = refl
first-backward (x ∷ []) = refl
first-backward (x ∷ y ∷ ys) =
    let some : 0 < length (backward (y ∷ ys)) = omega (arith, length-backward (y ∷ ys)) in
    let place : length (x ∷ y ∷ ys) - 1 ≡ suc (length (y ∷ ys) - 1) = omega arith in
    slice_get-append_left (backward (y ∷ ys)) (x.thread.0 ∷ []) 0 some ∙ first-backward (y ∷ ys)
    ∙ sym (ap (λ n. option_map (λ (z : Listed). z.thread.0) (slice_get (x ∷ y ∷ ys) n)) place)

last-backward : (xs : List Listed) → slice_get (backward xs) (length (backward xs) - 1) ≡ option_map (λ (x : Listed). x.thread.0) (slice_get xs 0)
last-backward [] = refl
last-backward (x ∷ xs) =
    let place : length (backward (x ∷ xs)) - 1 ≡ length (backward xs) = omega (arith, length-append (backward xs) (x.thread.0 ∷ [])) in
    ap (slice_get (backward (x ∷ xs))) place ∙ slice_get-append_seam (backward xs) [] x.thread.0

-- WHO IS TAKEN
pub picked_one : (xs : List Listed) (l : ProcNo) (own : Bool)
    → picked (newest_first xs l.0) own ≡ option_map (λ (x : Listed). x.thread.0) (chosen (filter (is_in l) xs) own)
picked_one xs l true = ap (λ ys. slice_get ys 0) (newest-backward xs l.0) ∙ first-backward (filter (is_in l) xs)
picked_one xs l false = ap (λ ys. slice_get ys (length ys - 1)) (newest-backward xs l.0) ∙ last-backward (filter (is_in l) xs)

some-backward : (xs : List Listed) → is_some_list (backward xs) ≡ has_some xs
some-backward [] = refl
some-backward (x ∷ xs) = go (backward xs) where
  go : (ys : List ℕ) → is_some_list (ys ++ x.thread.0 ∷ []) ≡ true
  go [] = refl
  go (y ∷ ys) = refl

pub some_one : (xs : List Listed) (l : ProcNo) → is_some_list (newest_first xs l.0) ≡ has_some (filter (is_in l) xs)
some_one xs l = ap is_some_list (newest-backward xs l.0) ∙ some-backward (filter (is_in l) xs)

-- what is left, where the one that is taken is there once
last-split : (xs : List ℕ) (t : ℕ) → slice_get xs (length xs - 1) ≡ Some t → xs ≡ take (length xs - 1) xs ++ t ∷ []
last-split [] t is = cc
last-split (x ∷ []) t is = ap (λ y. y ∷ []) (same_Some _ _ is)
last-split (x ∷ y ∷ ys) t is =
    let place : length (x ∷ y ∷ ys) - 1 ≡ suc (length (y ∷ ys) - 1) = omega arith in
    let rest : slice_get (y ∷ ys) (length (y ∷ ys) - 1) ≡ Some t = sym (ap (slice_get (x ∷ y ∷ ys)) place) ∙ is in
    ap (λ zs. x ∷ zs) (last-split (y ∷ ys) t rest) ∙ ap (λ n. take n (x ∷ y ∷ ys) ++ t ∷ []) (sym place)

pub left_one : (xs : List ℕ) (own : Bool) (t : ℕ) → picked xs own ≡ Some t → count_in t xs ≤ 1 → left_of xs own ≡ without t xs
left_one [] true t is few = cc
left_one (x ∷ xs) true t is few =
    let same : x ≡ t = same_Some _ _ is in
    sym (without_between t [] xs (subst (λ y. count_in t (y ∷ xs) ≤ 1) same few)) ∙ ap (λ y. without t (y ∷ xs)) (sym same)
left_one xs false t is few =
    let whole : xs ≡ take (length xs - 1) xs ++ t ∷ [] = last-split xs t is in
    sym (append-nil (take (length xs - 1) xs)) ∙ sym (without_between t (take (length xs - 1) xs) [] (subst (λ ys. count_in t ys ≤ 1) whole few))
    ∙ ap (without t) (sym whole)

pub newest_few : (t : ℕ) (xs : List Listed) (l : ℕ) → count_in t (newest_first xs l) ≤ count_by (λ (x : Listed). x.thread.0 == t) xs
newest_few t [] l = omega arith
newest_few t (y ∷ ys) l =
    let cons = sum_by-cons (λ (x : Listed). cond (eqb x.thread.0 t) 1 0) y ys in
    elim (is_in (record { 0 = l }) y) as (λ b. count_in t (cond b (newest_first ys l ++ y.thread.0 ∷ []) (newest_first ys l)) ≤ count_by
    (λ (x : Listed). x.thread.0 == t) (y ∷ ys)) [
      | true ↦ omega (arith, cons, newest_few t ys l, count-append t (newest_first ys l) (y.thread.0 ∷ []), sum_by-cons (λ z. cond (eqb z t) 1 0) y.thread.0 [])
      | false ↦ omega (arith, cons, newest_few t ys l)
    ]

-- what is taken leaves no list that lacks it
pub newest_stays : (xs : List Listed) (t : ThreadNo) (l : ℕ) → count_in t.0 (newest_first xs l) ≡ 0
    → newest_first (filter (is_other_thread t) xs) l ≡ newest_first xs l
newest_stays xs t l none = newest_less xs t l ∙ without_lacked t.0 (newest_first xs l) none
