-- What is made of the items of a list with their numbers, one after another.
use Rattle.std.proofs.Common.{◌≡◌, ℕ, ◌+◌, ◌<◌, ◌≤◌, List, [], ◌∷◌, ◌++◌, length, take, get_or, sym, ap, ◌∙◌, arith}
use Rattle.std.specs.List.{flat_map, enumerate_from}
use Rattle.std.proofs.lemmas.List.{flat_map_more, take_all, take_more, length-take-le}

-- one item more at the end
enumerate-more :
    {A : Type 0} (n m : ℕ) (xs : List A) (x : A) → m ≡ n + length xs → enumerate_from n (xs ++ x ∷ []) ≡ enumerate_from n xs ++ (m, x) ∷ []
enumerate-more n m [] x e = ap (λ k. (k, x) ∷ []) (let h : n ≡ m = omega arith in h)
enumerate-more n m (y ∷ xs) x e = ap (λ zs. (n, y) ∷ zs) (enumerate-more (n + 1) m xs x (omega arith))

enumerate-taken :
    {A : Type 0} (xs : List A) (i : ℕ) (d : A) → i < length xs → enumerate_from 0 (take (i + 1) xs) ≡ enumerate_from 0 (take i xs) ++ (i, get_or xs i d) ∷ []
enumerate-taken xs i d h =
    let e : length (take i xs) ≡ i = length-take-le i xs (omega arith) in
    ap (enumerate_from 0) (take_more xs i d h) ∙ enumerate-more 0 i (take i xs) (get_or xs i d) (omega arith)

pub told-more :
    {A B : Type 0} (f : ℕ → A → List B) (xs : List A) (i : ℕ) (d : A) (old now later : List B) → i < length xs
    → now ≡ old ++ flat_map (λ x. f x.0 x.1) (enumerate_from 0 (take i xs)) → later ≡ now ++ f i (get_or xs i d)
    → later ≡ old ++ flat_map (λ x. f x.0 x.1) (enumerate_from 0 (take (i + 1) xs))
told-more f xs i d old now later h e g =
    g ∙ ap (λ zs. zs ++ f i (get_or xs i d)) e ∙ flat_map_more (λ x. f x.0 x.1) old (enumerate_from 0 (take i xs)) (i, get_or xs i d)
    ∙ ap (λ zs. old ++ flat_map (λ x. f x.0 x.1) zs) (sym (enumerate-taken xs i d h))

pub told-all :
    {A B : Type 0} (f : ℕ → A → List B) (xs : List A) (i : ℕ) (old now : List B) → length xs ≤ i
    → now ≡ old ++ flat_map (λ x. f x.0 x.1) (enumerate_from 0 (take i xs)) → now ≡ old ++ flat_map (λ x. f x.0 x.1) (enumerate_from 0 xs)
told-all f xs i old now h e = e ∙ ap (λ zs. old ++ flat_map (λ x. f x.0 x.1) (enumerate_from 0 zs)) (take_all i xs h)
