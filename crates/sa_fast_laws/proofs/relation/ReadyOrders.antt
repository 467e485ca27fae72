-- The ready lists in both orders: the package has the newest thread first, and the history the oldest.
use Rattle.std.proofs.Common.{◌≡◌, ◌≢◌, ℕ, zero, suc, ◌-◌, ◌≤◌, Bool, true, false, not, List, [], ◌∷◌, ◌++◌, map, filter, reverse, length, take, drop, Some, slice_get, refl, sym, ap, ◌∙◌, inl, inr, arith, append-nil, if◌then◌else◌, length-append}
use Rattle.std.specs.Prelude.{◌<◌, nat_lt, ◌||◌}
use Rattle.std.proofs.lemmas.Bool.{lt-ltb, cases_eq, eq-eqb, ne_eqb}
use Rattle.std.proofs.lemmas.List.{length-map, length-reverse, map-append, reverse-append}
use Rattle.std.proofs.lemmas.Option.{same_Some}
use Rattle.std.specs.List.{list_any}
use Rattle.std.proofs.lemmas.List.Elements.{filter-append}
use Rattle.sa_base.specs.declared.number.ProcNo.{ProcNo}
use Rattle.sa_base.specs.declared.number.ThreadNo.{ThreadNo}
use Rattle.sa_lemmas.proofs.ListUpdates.{slice_get-append_seam}
use Rattle.sa_links.proofs.Counting.{count-append, count_same, without_between}
use Rattle.sa_links.specs.Lists.{count_in, without}
use Rattle.sa_lists.specs.ReadyView.{processor, list_of}
use Rattle.sa_package_model.specs.Rules.{own_list}
use Rattle.sa_package_model.specs.declared.package.Package.{Package}
use Rattle.sa_laws.specs.Readings.{Listed, is_in}
use Rattle.sa_laws.specs.Record.{is_other_thread}
use Rattle.sa_fast_laws.specs.FastFits.{FitsLists, number_in, numbers_in}

pub numbers-append : (xs ys : List Listed) (l : ProcNo) → numbers_in (xs ++ ys) l ≡ numbers_in xs l ++ numbers_in ys l
numbers-append xs ys l = ap (map number_in) (filter-append (is_in l) xs ys) ∙ map-append number_in (filter (is_in l) xs) (filter (is_in l) ys)

pub numbers-here : (x : Listed) (l : ProcNo) → x.list.0 ≡ l.0 → numbers_in (x ∷ []) l ≡ x.thread.0 ∷ []
numbers-here x l same = ap (λ b. map number_in (if b then x ∷ [] else [])) (eq-eqb x.list.0 l.0 same)

pub numbers-there : (x : Listed) (l : ProcNo) → x.list.0 ≢ l.0 → numbers_in (x ∷ []) l ≡ []
numbers-there x l other = ap (λ b. map number_in (if b then x ∷ [] else [])) (ne_eqb x.list.0 l.0 other)

-- without a thread
pub numbers-without : (t : ThreadNo) (xs : List Listed) (l : ProcNo) → numbers_in (filter (is_other_thread t) xs) l ≡ without t.0 (numbers_in xs l)
numbers-without t [] l = refl
numbers-without t (x ∷ xs) l =
    let ys = filter (is_in l) (filter (is_other_thread t) xs) in
    let zs = filter (is_in l) xs in
    elim (cases_eq x.thread.0 t.0) [
      | inl e ↦
          ap (λ b. numbers_in (if not b then x ∷ filter (is_other_thread t) xs else filter (is_other_thread t) xs) l) (eq-eqb x.thread.0 t.0 e)
          ∙ numbers-without t xs l ∙ sym (gone zs (is_in l x) e)
      | inr ne ↦
          ap (λ b. numbers_in (if not b then x ∷ filter (is_other_thread t) xs else filter (is_other_thread t) xs) l) (ne_eqb x.thread.0 t.0 ne)
          ∙ stays ys zs (is_in l x) ne (numbers-without t xs l)
    ] where
      gone : (zs : List Listed) (here : Bool) → x.thread.0 ≡ t.0
          → without t.0 (map number_in (if here then x ∷ zs else zs)) ≡ without t.0 (map number_in zs)
      gone zs true e =
          ap (λ b. if not b then x.thread.0 ∷ without t.0 (map number_in zs) else without t.0 (map number_in zs)) (eq-eqb x.thread.0 t.0 e)
      gone zs false e = refl

      stays : (ys zs : List Listed) (here : Bool) → x.thread.0 ≢ t.0 → map number_in ys ≡ without t.0 (map number_in zs)
          → map number_in (if here then x ∷ ys else ys) ≡ without t.0 (map number_in (if here then x ∷ zs else zs))
      stays ys zs true ne rest =
          ap (λ ns. x.thread.0 ∷ ns) rest
          ∙ sym (ap (λ b. if not b then x.thread.0 ∷ without t.0 (map number_in zs) else without t.0 (map number_in zs)) (ne_eqb x.thread.0 t.0 ne))
      stays ys zs false ne rest = rest

-- a push: the newest in one order is the last in the other
pub reverse-cons : (x : ℕ) (xs : List ℕ) → reverse (x ∷ xs) ≡ reverse xs ++ x ∷ []
reverse-cons x xs = reverse-append (x ∷ []) xs

pub count-reverse : (n : ℕ) (xs : List ℕ) → count_in n (reverse xs) ≡ count_in n xs
count-reverse n [] = refl
count-reverse n (x ∷ xs) =
    ap (count_in n) (reverse-cons x xs) ∙ count-append n (reverse xs) (x ∷ [])
    ∙ (let rest = count-reverse n xs in let both = count-append n (x ∷ []) xs in omega arith)

-- a pop: without the newest, without the oldest
pub without_newest : (xs : List ℕ) (t : ℕ) → count_in t xs ≤ 1 → slice_get xs 0 ≡ Some t → without t (reverse xs) ≡ reverse (drop 1 xs)
without_newest [] t once e = absurd cc
without_newest (x ∷ xs) t once e =
    let same : x ≡ t = same_Some x t e in
    let all = count-reverse t xs in let one = count_same t x xs same in
    ap (without t) (reverse-cons x xs ∙ ap (λ y. reverse xs ++ y ∷ []) same)
    ∙ without_between t (reverse xs) []
    (let sum = count-append t (reverse xs) (t ∷ []) in let last = count_same t t [] refl in let none : count_in t [] ≡ 0 = refl in omega arith)
    ∙ append-nil (reverse xs)

some_length : (xs : List ℕ) (t : ℕ) → slice_get xs (length xs - 1) ≡ Some t → length xs ≡ suc (length xs - 1)
some_length [] t e = absurd cc
some_length (x ∷ xs) t e = omega arith

last_is : (xs : List ℕ) (n t : ℕ) → slice_get xs n ≡ Some t → length xs ≡ suc n → xs ≡ take n xs ++ t ∷ []
last_is [] n t e size = absurd cc
last_is (x ∷ []) zero t e size = ap (λ y. y ∷ []) (same_Some x t e)
last_is (x ∷ y ∷ xs) zero t e size = absurd (omega arith)
last_is (x ∷ xs) (suc n) t e size = ap (λ ys. x ∷ ys) (last_is xs n t e (omega arith))

pub without_oldest : (xs : List ℕ) (t : ℕ) → count_in t xs ≤ 1 → slice_get xs (length xs - 1) ≡ Some t
    → without t (reverse xs) ≡ reverse (take (length xs - 1) xs)
without_oldest xs t once e =
    let whole = last_is xs (length xs - 1) t e (some_length xs t e) in
    let front = take (length xs - 1) xs in
    let turned : reverse xs ≡ t ∷ reverse front = ap reverse whole ∙ reverse-append front (t ∷ []) in
    ap (without t) turned
    ∙ without_between t [] (reverse front) (let all = count-reverse t xs ∙ refl in let now = ap (count_in t) turned in omega arith)

-- in both orders the same number is next
pub newest_last : (xs ys : List ℕ) (t : ℕ) → ys ≡ reverse xs → slice_get xs 0 ≡ Some t → slice_get ys (length ys - 1) ≡ Some t
newest_last [] ys t same e = absurd cc
newest_last (x ∷ xs) ys t same e =
    let turned : ys ≡ reverse xs ++ t ∷ [] = same ∙ reverse-cons x xs ∙ ap (λ y. reverse xs ++ y ∷ []) (same_Some x t e) in
    let size : length ys - 1 ≡ length (reverse xs) = (let all = ap length turned in let sum = length-append (reverse xs) (t ∷ []) in omega arith) in
    ap (λ n. slice_get ys n) size ∙ ap (λ zs. slice_get zs (length (reverse xs))) turned ∙ slice_get-append_seam (reverse xs) [] t

pub oldest_first : (xs ys : List ℕ) (t : ℕ) → ys ≡ reverse xs → slice_get xs (length xs - 1) ≡ Some t → slice_get ys 0 ≡ Some t
oldest_first xs ys t same e =
    let whole = last_is xs (length xs - 1) t e (some_length xs t e) in
    let turned : ys ≡ t ∷ reverse (take (length xs - 1) xs) = same ∙ ap reverse whole ∙ reverse-append (take (length xs - 1) xs) (t ∷ []) in
    ap (λ zs. slice_get zs 0) turned

-- a list with a thread in it
any_length : (p : Listed → Bool) (xs : List Listed) → list_any p xs ≡ nat_lt 0 (length (filter p xs))
any_length p [] = refl
any_length p (x ∷ xs) = by (p x) (any_length p xs) where
  by : (b : Bool) → list_any p xs ≡ nat_lt 0 (length (filter p xs))
      → (b || list_any p xs) ≡ nat_lt 0 (length (if b then x ∷ filter p xs else filter p xs))
  by true e = sym (lt-ltb 0 (suc (length (filter p xs))) (omega arith))
  by false e = e

-- in the history some ready thread is in a list exactly where one is in the package
pub ready-alike : (u : Package) (listed : List Listed) → FitsLists u listed → (l : ProcNo)
    → list_any (is_in l) listed ≡ nat_lt 0 (length (list_of u.shared.state.lists l.0))
ready-alike u listed k l =
    any_length (is_in l) listed
    ∙ ap (nat_lt 0) (sym (length-map (filter (is_in l) listed) number_in) ∙ ap length (k.numbers l) ∙ length-reverse (list_of u.shared.state.lists l.0))

-- FastThreads' processors have their own lists
pub own-list-is : (u : Package) (listed : List Listed) → FitsLists u listed → (p : ProcNo) → p.0 < u.processors → own_list u p ≡ p
own-list-is u listed k p inside = elim (cases_eq (length u.shared.state.lists.lists) 1) [
  | inl one ↦ ap (λ b. processor (if b then 0 else p.0)) (eq-eqb (length u.shared.state.lists.lists) 1 one)
      ∙ ap processor (let many = k.many in let zero_is : 0 ≡ p.0 = omega arith in zero_is)
  | inr more ↦ ap (λ b. processor (if b then 0 else p.0)) (ne_eqb (length u.shared.state.lists.lists) 1 more)
]
