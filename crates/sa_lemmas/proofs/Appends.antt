-- What is appended of one item of a list, or one number, after another.
use Rattle.std.proofs.Common.{◌≡◌, ℕ, zero, suc, ◌+◌, ◌<◌, ◌≤◌, List, ◌++◌, length, take, get_or, sym, ap, ◌∙◌, append_assoc, append-nil, add-one, arith}
use Rattle.std.specs.List.{flat_map, range_with_len}
use Rattle.std.proofs.lemmas.List.{flat_map_more, take_all, take_more}

-- what the first items of a list gave, and the next one
pub list-more : {A B : Type 0} (f : A → List B) (xs : List A) (i : ℕ) (d : A) (old now later : List B) → i < length xs
    → now ≡ old ++ flat_map f (take i xs) → later ≡ now ++ f (get_or xs i d) → later ≡ old ++ flat_map f (take (i + 1) xs)
list-more f xs i d old now later within before more =
    more ∙ ap (λ ys. ys ++ f (get_or xs i d)) before ∙ flat_map_more f old (take i xs) (get_or xs i d)
    ∙ ap (λ ys. old ++ flat_map f ys) (sym (take_more xs i d within))

-- and all of them
pub list-all : {A B : Type 0} (f : A → List B) (xs : List A) (i : ℕ) (old now : List B) → length xs ≤ i → now ≡ old ++ flat_map f (take i xs)
    → now ≡ old ++ flat_map f xs
list-all f xs i old now all is = is ∙ ap (λ ys. old ++ flat_map f ys) (take_all i xs all)

-- what the numbers below n gave, and n itself
range-suc : {B : Type 0} (f : ℕ → List B) (a n : ℕ) → flat_map f (range_with_len a (suc n)) ≡ flat_map f (range_with_len a n) ++ f (a + n)
range-suc f a zero = append-nil (f a) ∙ ap f (let e : a ≡ a + 0 = omega arith in e)
range-suc f a (suc n) =
    ap (λ z. f a ++ z) (range-suc f (a + 1) n)
    ∙ sym (append_assoc (f a) (flat_map f (range_with_len (a + 1) n)) (f (a + 1 + n)))
    ∙ ap (λ k. (f a ++ flat_map f (range_with_len (a + 1) n)) ++ f k) (let e : a + 1 + n ≡ a + suc n = omega arith in e)

pub range-more : {B : Type 0} (f : ℕ → List B) (n : ℕ) → flat_map f (range_with_len 0 (n + 1)) ≡ flat_map f (range_with_len 0 n) ++ f n
range-more f n =
    ap (λ k. flat_map f (range_with_len 0 k)) (add-one n) ∙ range-suc f 0 n
    ∙ ap (λ k. flat_map f (range_with_len 0 n) ++ f k) (let e : 0 + n ≡ n = omega arith in e)
