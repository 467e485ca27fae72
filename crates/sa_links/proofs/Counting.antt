-- How often a number is in a list, and in lists.
use Rattle.std.proofs.Common.{◌≡◌, ◌≢◌, ℕ, zero, suc, ◌+◌, ◌≤◌, ◌<◌, cond, not, List, [], ◌∷◌, ◌++◌, length, set, replicate, Some, slice_get, eqb, refl, sym, ap, ◌∙◌, subst, inl, inr, arith}
use Rattle.std.proofs.lemmas.Bool.{eq-eqb, ne_eqb, cases_eq, cases_lt}
use Rattle.std.proofs.lemmas.Option.{same_Some}
use Rattle.std.proofs.lemmas.List.{get_or-set_other, get_or_past}
use Rattle.std.proofs.lemmas.List.Sums.{sum_by-cons, sum_by-append, sum_by-set, get_or-le-sum_by}
use Rattle.sa_links.specs.Lists.{list_at, count_in, count_in_all, without}

pub count-cons : (x y : ℕ) (ys : List ℕ) → count_in x (y ∷ ys) ≡ cond (eqb y x) 1 0 + count_in x ys
count-cons x y ys = sum_by-cons (λ z. cond (eqb z x) 1 0) y ys

pub count_same : (x y : ℕ) (ys : List ℕ) → y ≡ x → count_in x (y ∷ ys) ≡ 1 + count_in x ys
count_same x y ys e = count-cons x y ys ∙ ap (λ b. cond b 1 0 + count_in x ys) (eq-eqb y x e)

pub count_other : (x y : ℕ) (ys : List ℕ) → y ≢ x → count_in x (y ∷ ys) ≡ count_in x ys
count_other x y ys ne =
    let e : count_in x (y ∷ ys) ≡ 0 + count_in x ys = count-cons x y ys ∙ ap (λ b. cond b 1 0 + count_in x ys) (ne_eqb y x ne) in omega arith

pub count-append : (x : ℕ) (xs ys : List ℕ) → count_in x (xs ++ ys) ≡ count_in x xs + count_in x ys
count-append x xs ys = sum_by-append (λ z. cond (eqb z x) 1 0) xs ys

-- a list from y on lacks what it does not begin with, and what the rest lacks
pub lacks_head : (x y : ℕ) (ys : List ℕ) → count_in x (y ∷ ys) ≡ 0 → y ≢ x
lacks_head x y ys none e = let c = count_same x y ys e in absurd (omega arith)

pub lacks_tail : (x y : ℕ) (ys : List ℕ) → count_in x (y ∷ ys) ≡ 0 → count_in x ys ≡ 0
lacks_tail x y ys none = let c = count_other x y ys (lacks_head x y ys none) in omega arith

pub count-cons-ge : (x y : ℕ) (ys : List ℕ) → count_in x ys ≤ count_in x (y ∷ ys)
count-cons-ge x y ys = let e = count-cons x y ys in omega arith

-- what a list has at a slot is in it
pub get_in : (xs : List ℕ) (k t : ℕ) → slice_get xs k ≡ Some t → 1 ≤ count_in t xs
get_in [] k t e = absurd cc
get_in (x ∷ xs) zero t e = let one = count_same t x xs (same_Some _ _ e) in omega arith
get_in (x ∷ xs) (suc k) t e = let rest = get_in xs k t e in let more = count-cons-ge t x xs in omega arith

pub first_counted : (xs : List ℕ) (n : ℕ) → ((y : ℕ) → slice_get xs 0 ≡ Some y → y ≡ n) → 1 ≤ length xs → 1 ≤ count_in n xs
first_counted [] n first some = absurd (omega arith)
first_counted (x ∷ xs) n first some = let one = count_same n x xs (first x refl) in omega arith

-- nothing is in empty lists
pub count-replicate : (x n : ℕ) → count_in_all x (replicate n []) ≡ 0
count-replicate x zero = refl
count-replicate x (suc n) =
    let more : count_in_all x (replicate (suc n) []) ≡ 0 + count_in_all x (replicate n []) = sum_by-cons (count_in x) [] (replicate n []) in
    let rest = count-replicate x n in omega arith

pub empty_lists : (n l : ℕ) → list_at (replicate n []) l ≡ []
empty_lists zero l = refl
empty_lists (suc n) zero = refl
empty_lists (suc n) (suc l) = empty_lists n l

pub count_set : (x : ℕ) (ls : List (List ℕ)) (l : ℕ) (xs : List ℕ) → l < length ls
    → count_in_all x (set ls l xs) + count_in x (list_at ls l) ≡ count_in_all x ls + count_in x xs
count_set x ls l xs h = sum_by-set (count_in x) ls l xs [] h

pub count_at : (x : ℕ) (ls : List (List ℕ)) (l : ℕ) → count_in x (list_at ls l) ≤ count_in_all x ls
count_at x ls l = elim (cases_lt l (length ls)) [
  | inl h ↦ get_or-le-sum_by (count_in x) ls l [] h
  | inr h ↦ let e : count_in x (list_at ls l) ≡ 0 = ap (count_in x) (get_or_past ls l [] h) in omega arith
]

pub count_two : (x : ℕ) (ls : List (List ℕ)) (l m : ℕ) → l ≢ m → l < length ls → count_in x (list_at ls l) + count_in x (list_at ls m) ≤ count_in_all x ls
count_two x ls l m ne h =
    let less = count_set x ls l [] h in
    let other : m ≢ l = λ e. ne (sym e) in
    let e : count_in x (list_at (set ls l []) m) ≡ count_in x (list_at ls m) = ap (count_in x) (get_or-set_other ls l m [] [] other) in
    let at = count_at x (set ls l []) m in
    omega arith

pub without_same : (x y : ℕ) (ys : List ℕ) → y ≡ x → without x (y ∷ ys) ≡ without x ys
without_same x y ys e = ap (λ b. cond (not b) (y ∷ without x ys) (without x ys)) (eq-eqb y x e)

pub without_other : (x y : ℕ) (ys : List ℕ) → y ≢ x → without x (y ∷ ys) ≡ y ∷ without x ys
without_other x y ys ne = ap (λ b. cond (not b) (y ∷ without x ys) (without x ys)) (ne_eqb y x ne)

-- a list without x
pub count_without_same : (x : ℕ) (xs : List ℕ) → count_in x (without x xs) ≡ 0
count_without_same x [] = refl
count_without_same x (y ∷ ys) = elim (cases_eq y x) [
  | inl e ↦ let s = without_same x y ys e in ap (count_in x) s ∙ count_without_same x ys
  | inr ne ↦ let s = without_other x y ys ne in ap (count_in x) s ∙ count_other x y (without x ys) ne ∙ count_without_same x ys
]

pub count_without_other : (k x : ℕ) (xs : List ℕ) → k ≢ x → count_in k (without x xs) ≡ count_in k xs
count_without_other k x [] ne = refl
count_without_other k x (y ∷ ys) ne = elim (cases_eq y x) [
  | inl e ↦ let s = without_same x y ys e in ap (count_in k) s ∙ count_without_other k x ys ne ∙ sym (count_other k y ys (λ f. ne (sym f ∙ e)))
  | inr yx ↦ let s = without_other x y ys yx in
      ap (count_in k) s ∙ count-cons k y (without x ys) ∙ ap (λ c. cond (eqb y k) 1 0 + c) (count_without_other k x ys ne) ∙ sym (count-cons k y ys)
]

pub length_without : (x : ℕ) (xs : List ℕ) → length xs ≡ length (without x xs) + count_in x xs
length_without x [] = refl
length_without x (y ∷ ys) = elim (cases_eq y x) [
  | inl e ↦ let s = ap length (without_same x y ys e) in let c = count_same x y ys e in let h = length_without x ys in omega arith
  | inr ne ↦ let s = ap length (without_other x y ys ne) in let c = count_other x y ys ne in let h = length_without x ys in omega arith
]

pub without_lacked : (x : ℕ) (xs : List ℕ) → count_in x xs ≡ 0 → without x xs ≡ xs
without_lacked x [] l = refl
without_lacked x (y ∷ ys) l = without_other x y ys (lacks_head x y ys l) ∙ ap (λ zs. y ∷ zs) (without_lacked x ys (lacks_tail x y ys l))

pub without_between : (x : ℕ) (xs ys : List ℕ) → count_in x (xs ++ x ∷ ys) ≤ 1 → without x (xs ++ x ∷ ys) ≡ xs ++ ys
without_between x [] ys once = let c = count_same x x ys refl in without_same x x ys refl ∙ without_lacked x ys (omega arith)
without_between x (y ∷ xs) ys once =
    let e = count-append x (y ∷ xs) (x ∷ ys) in let e' = count-append x xs (x ∷ ys) in let c = count_same x x ys refl in let g = count-cons-ge x y xs in
    let none : count_in x (y ∷ xs) ≡ 0 = omega arith in
    without_other x y (xs ++ x ∷ ys) (lacks_head x y xs none) ∙ ap (λ zs. y ∷ zs) (without_between x xs ys (omega arith))

-- what is in a list is between two parts of it
pub stands_between : (x : ℕ) (xs : List ℕ) → 1 ≤ count_in x xs → (front : List ℕ) × (back : List ℕ) × (xs ≡ front ++ x ∷ back)
stands_between x [] h = absurd (omega arith)
stands_between x (y ∷ ys) h = elim (cases_eq y x) [
  | inl e ↦ ([], ys, ap (λ z. z ∷ ys) e)
  | inr ne ↦ let c = count_other x y ys ne in let r = stands_between x ys (omega arith) in (y ∷ r.0, r.1, ap (λ zs. y ∷ zs) r.2)
]

-- a list in which each number is below n, and none is twice, has n numbers at most
pub few_below : (n : ℕ) (xs : List ℕ) → ((x : ℕ) → count_in x xs ≤ 1) → ((x : ℕ) → 1 ≤ count_in x xs → x < n) → length xs ≤ n
few_below zero [] once below = omega arith
few_below zero (x ∷ xs) once below = let c = count_same x x xs refl in let lt = below x (omega arith) in absurd (omega arith)
few_below (suc n) xs once below =
    let l = length_without n xs in let o = once n in
    let once' : (x : ℕ) → count_in x (without n xs) ≤ 1 = λ x. elim (cases_eq x n) [
      | inl e ↦ let c : count_in x (without n xs) ≡ 0 = subst (λ z. count_in z (without n xs) ≡ 0) (sym e) (count_without_same n xs) in omega arith
      | inr ne ↦ let c = count_without_other x n xs ne in let o' = once x in omega arith
    ] in
    let below' : (x : ℕ) → 1 ≤ count_in x (without n xs) → x < n = λ x h. elim (cases_eq x n) [
      | inl e ↦ let c : count_in x (without n xs) ≡ 0 = subst (λ z. count_in z (without n xs) ≡ 0) (sym e) (count_without_same n xs) in absurd (omega arith)
      | inr ne ↦ let c = count_without_other x n xs ne in let b = below x (omega arith) in omega arith
    ] in
    let h = few_below n (without n xs) once' below' in omega arith
