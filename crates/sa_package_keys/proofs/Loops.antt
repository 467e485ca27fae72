-- Codes one after another.
use Rattle.std.proofs.Common.{◌≡◌, ℕ, zero, suc, ◌+◌, ◌<◌, ◌≤◌, Bool, Some, None, List, [], ◌∷◌, ◌++◌, length, map, take, get_or, slice_get, refl, sym, ap, ◌∙◌, arith, append_assoc, append-nil, add-one}
use Rattle.std.proofs.lemmas.List.{take_all, length-take-le, get_or-take}
use Rattle.std.proofs.lemmas.Option.{slice_get-get_or}
use Rattle.std.specs.List.{flat_map, range_with_len}
use Rattle.sa_package_keys.specs.Codes.{number, list, trimmed, padded}

range-suc : (f : ℕ → List ℕ) (a n : ℕ) → flat_map f (range_with_len a (suc n)) ≡ flat_map f (range_with_len a n) ++ f (a + n)
range-suc f a zero = append-nil (f a) ∙ ap f (let e : a ≡ a + 0 = omega arith in e)
range-suc f a (suc n) =
    ap (λ z. f a ++ z) (range-suc f (a + 1) n)
    ∙ sym (append_assoc (f a) (flat_map f (range_with_len (a + 1) n)) (f (a + 1 + n)))
    ∙ ap (λ k. (f a ++ flat_map f (range_with_len (a + 1) n)) ++ f k) (let e : a + 1 + n ≡ a + suc n = omega arith in e)

-- of the numbers below n, and of one more
pub range_more : (f : ℕ → List ℕ) (n : ℕ) → flat_map f (range_with_len 0 (n + 1)) ≡ flat_map f (range_with_len 0 n) ++ f n
range_more f n =
    ap (λ k. flat_map f (range_with_len 0 k)) (add-one n) ∙ range-suc f 0 n
    ∙ ap (λ k. flat_map f (range_with_len 0 n) ++ f k) (let e : 0 + n ≡ n = omega arith in e)

list-suc : {A : Type 0} (f : A → List ℕ) (xs : List A) (i : ℕ) (x : A) → slice_get xs i ≡ Some x → flat_map f (take (suc i) xs) ≡ flat_map f (take i xs) ++ f x
list-suc f [] i x at = absurd (let e : None ≡ Some x = at in cc)
list-suc f (y ∷ ys) zero x at = append-nil (f y) ∙ ap f (let e : y ≡ x = cc in e)
list-suc f (y ∷ ys) (suc i) x at = ap (λ z. f y ++ z) (list-suc f ys i x at) ∙ sym (append_assoc (f y) (flat_map f (take i ys)) (f x))

-- of the first i of a list, and of the next one
pub list_more : {A : Type 0} (f : A → List ℕ) (xs : List A) (i : ℕ) (x : A) → slice_get xs i ≡ Some x
    → flat_map f (take (i + 1) xs) ≡ flat_map f (take i xs) ++ f x
list_more f xs i x at = ap (λ k. flat_map f (take k xs)) (add-one i) ∙ list-suc f xs i x at

pub flat_map_map : {A B : Type 0} (f : B → List ℕ) (g : A → B) (xs : List A) → flat_map f (map g xs) ≡ flat_map (λ x. f (g x)) xs
flat_map_map f g [] = refl
flat_map_map f g (x ∷ xs) = ap (λ z. f (g x) ++ z) (flat_map_map f g xs)

-- LISTS IN THE MAKING: the code of a list as far as its first n
unfoldable pub so_far : {A : Type 0} → (A → List ℕ) → List A → ℕ → List ℕ
so_far f xs n = number (length xs) ++ flat_map f (take n xs)

pub so_far-none : {A : Type 0} (f : A → List ℕ) (xs : List A) (n : ℕ) (old new : List ℕ) → n ≡ length xs → new ≡ old ++ number n → new ≡ old ++ so_far f xs 0
unfolding so_far
so_far-none f xs n old new count is = is ∙ ap (λ z. old ++ z) (ap number count ∙ sym (append-nil (number (length xs))))

pub so_far-more : {A : Type 0} (f : A → List ℕ) (xs : List A) (d : A) (i : ℕ) (old mid new : List ℕ) → i < length xs → mid ≡ old ++ so_far f xs i
    → new ≡ mid ++ f (get_or xs i d) → new ≡ old ++ so_far f xs (i + 1)
unfolding so_far
so_far-more f xs d i old mid new low before is =
    let count = number (length xs) in let now = flat_map f (take i xs) in let x = f (get_or xs i d) in
    is ∙ ap (λ z. z ++ x) before ∙ append_assoc old (count ++ now) x
    ∙ ap (λ z. old ++ z) (append_assoc count now x)
    ∙ ap (λ z. old ++ (count ++ z)) (sym (list_more f xs i (get_or xs i d) (slice_get-get_or xs i d low)))

pub so_far-all : {A : Type 0} (f : A → List ℕ) (xs : List A) (n : ℕ) (old new : List ℕ) → length xs ≤ n → new ≡ old ++ so_far f xs n → new ≡ old ++ list f xs
unfolding so_far list
so_far-all f xs n old new all is = is ∙ ap (λ z. old ++ (number (length xs) ++ flat_map f z)) (take_all n xs all)

-- the same of the first k of a list
pub so_far-kept : {A : Type 0} (f : A → List ℕ) (xs : List A) (d : A) (k i : ℕ) (old mid new : List ℕ) → k ≤ length xs → i < k
    → mid ≡ old ++ so_far f (take k xs) i → new ≡ mid ++ f (get_or xs i d) → new ≡ old ++ so_far f (take k xs) (i + 1)
so_far-kept f xs d k i old mid new most low before is =
    so_far-more f (take k xs) d i old mid new (let h : i < length (take k xs) = omega (arith, length-take-le k xs most) in h) before
    (is ∙ ap (λ x. mid ++ f x) (sym (get_or-take k xs i d low)))

-- what is kept of a list, behind how long it is
pub padded-all : {A : Type 0} (test : A → Bool) (f : A → List ℕ) (xs : List A) (k n : ℕ) (old new : List ℕ) → n ≡ length xs → trimmed test xs ≡ take k xs
    → new ≡ (old ++ number n) ++ list f (take k xs) → new ≡ old ++ padded test f xs
unfolding padded
padded-all test f xs k n old new count kept is =
    is ∙ append_assoc old (number n) (list f (take k xs))
    ∙ ap (λ m. old ++ (number m ++ list f (take k xs))) count
    ∙ ap (λ ys. old ++ (number (length xs) ++ list f ys)) (sym kept)
