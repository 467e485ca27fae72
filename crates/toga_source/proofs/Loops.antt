-- What is written, or made, of the items of a list with their numbers, one after another.
use Rattle.std.proofs.Common.{◌≡◌, ℕ, ◌+◌, ◌<◌, ◌≤◌, List, [], ◌∷◌, ◌++◌, length, take, get_or, map, refl, sym, ap, ◌∙◌, arith}
use Rattle.std.specs.List.{flat_map, enumerate_from, fold, range_with_len}
use Rattle.std.proofs.lemmas.List.{flat_map_more, take_all, take_more, length-take-le, map-append}
use Rattle.std.proofs.lemmas.List.Sums.{fold-append}
use Rattle.std.proofs.lemmas.List.FromFn.{map-range_with_len_more}
use Rattle.sa_lemmas.proofs.Appends.{range-more}
use Rattle.toga_source.specs.Show.{with_numbers}

-- one item more at the end
enumerate-more :
    {A : Type 0} (n m : ℕ) (xs : List A) (x : A) → m ≡ n + length xs → enumerate_from n (xs ++ x ∷ []) ≡ enumerate_from n xs ++ (m, x) ∷ []
enumerate-more n m [] x e = ap (λ k. (k, x) ∷ []) (let h : n ≡ m = omega arith in h)
enumerate-more n m (y ∷ xs) x e = ap (λ zs. (n, y) ∷ zs) (enumerate-more (n + 1) m xs x (omega arith))

-- the items up to one of them, and that one
enumerate-taken :
    {A : Type 0} (xs : List A) (i : ℕ) (d : A) → i < length xs → enumerate_from 0 (take (i + 1) xs) ≡ enumerate_from 0 (take i xs) ++ (i, get_or xs i d) ∷ []
enumerate-taken xs i d h =
    let e : length (take i xs) ≡ i = length-take-le i xs (omega arith) in
    ap (enumerate_from 0) (take_more xs i d h) ∙ enumerate-more 0 i (take i xs) (get_or xs i d) (omega arith)

-- what is written of one item more, and of all
pub numbered-more :
    {A : Type 0} (f : ℕ → A → List ℕ) (xs : List A) (i : ℕ) (d : A) (old now later : List ℕ) → i < length xs → now ≡ old ++ with_numbers f (take i xs)
    → later ≡ now ++ f i (get_or xs i d) → later ≡ old ++ with_numbers f (take (i + 1) xs)
numbered-more f xs i d old now later h e g =
    g ∙ ap (λ zs. zs ++ f i (get_or xs i d)) e ∙ flat_map_more (λ x. f x.0 x.1) old (enumerate_from 0 (take i xs)) (i, get_or xs i d)
    ∙ ap (λ zs. old ++ flat_map (λ x. f x.0 x.1) zs) (sym (enumerate-taken xs i d h))

pub numbered-all :
    {A : Type 0} (f : ℕ → A → List ℕ) (xs : List A) (i : ℕ) (old now : List ℕ) → length xs ≤ i → now ≡ old ++ with_numbers f (take i xs)
    → now ≡ old ++ with_numbers f xs
numbered-all f xs i old now h e = e ∙ ap (λ zs. old ++ with_numbers f zs) (take_all i xs h)

-- what is made of one item more
pub made-more :
    {A B : Type 0} (f : ℕ → A → B) (xs : List A) (i : ℕ) (d : A) (now later : List B) (x : B) → i < length xs
    → now ≡ map (λ x. f x.0 x.1) (enumerate_from 0 (take i xs)) → x ≡ f i (get_or xs i d) → later ≡ now ++ x ∷ []
    → later ≡ map (λ x. f x.0 x.1) (enumerate_from 0 (take (i + 1) xs))
made-more f xs i d now later x h e v g =
    g ∙ ap (λ y. now ++ y ∷ []) v ∙ ap (λ zs. zs ++ f i (get_or xs i d) ∷ []) e
    ∙ sym (map-append (λ x. f x.0 x.1) (enumerate_from 0 (take i xs)) ((i, get_or xs i d) ∷ []))
    ∙ ap (map (λ x. f x.0 x.1)) (sym (enumerate-taken xs i d h))

pub made-all :
    {A B : Type 0} (f : ℕ → A → B) (xs : List A) (i : ℕ) (now : List B) → length xs ≤ i
    → now ≡ map (λ x. f x.0 x.1) (enumerate_from 0 (take i xs)) → now ≡ map (λ x. f x.0 x.1) (enumerate_from 0 xs)
made-all f xs i now h e = e ∙ ap (λ zs. map (λ x. f x.0 x.1) (enumerate_from 0 zs)) (take_all i xs h)

-- what is made of one number more
pub counted-more :
    {B : Type 0} (f : ℕ → B) (n : ℕ) (now later : List B) (x : B) → now ≡ map f (range_with_len 0 n) → x ≡ f n → later ≡ now ++ x ∷ []
    → later ≡ map f (range_with_len 0 (n + 1))
counted-more f n now later x e v g =
    g ∙ ap (λ y. now ++ y ∷ []) v ∙ ap (λ zs. zs ++ f n ∷ []) e ∙ sym (map-range_with_len_more f 0 n n (omega arith))

pub ranged-more :
    {B : Type 0} (f : ℕ → List B) (n : ℕ) (now later : List B) → now ≡ flat_map f (range_with_len 0 n) → later ≡ now ++ f n
    → later ≡ flat_map f (range_with_len 0 (n + 1))
ranged-more f n now later e g = g ∙ ap (λ zs. zs ++ f n) e ∙ sym (range-more f n)

-- what a fold is after one item more
pub folded-more :
    {A B : Type 0} (f : B → ℕ → A → B) (b : B) (xs : List A) (i : ℕ) (d : A) (now later : B) → i < length xs
    → now ≡ fold (λ z x. f z x.0 x.1) b (enumerate_from 0 (take i xs)) → later ≡ f now i (get_or xs i d)
    → later ≡ fold (λ z x. f z x.0 x.1) b (enumerate_from 0 (take (i + 1) xs))
folded-more f b xs i d now later h e g =
    g ∙ ap (λ z. f z i (get_or xs i d)) e ∙ sym (fold-append (λ z x. f z x.0 x.1) b (enumerate_from 0 (take i xs)) ((i, get_or xs i d) ∷ []))
    ∙ ap (fold (λ z x. f z x.0 x.1) b) (sym (enumerate-taken xs i d h))

pub folded-all :
    {A B : Type 0} (f : B → ℕ → A → B) (b : B) (xs : List A) (i : ℕ) (now : B) → length xs ≤ i
    → now ≡ fold (λ z x. f z x.0 x.1) b (enumerate_from 0 (take i xs)) → now ≡ fold (λ z x. f z x.0 x.1) b (enumerate_from 0 xs)
folded-all f b xs i now h e = e ∙ ap (λ zs. fold (λ z x. f z x.0 x.1) b (enumerate_from 0 zs)) (take_all i xs h)
