-- A fold over the items of a list with their numbers, one after another.
use Rattle.std.proofs.Common.{◌≡◌, ℕ, ◌+◌, ◌<◌, ◌≤◌, List, [], ◌∷◌, ◌++◌, length, take, get_or, sym, ap, ◌∙◌, arith}
use Rattle.std.specs.List.{enumerate_from, fold}
use Rattle.std.proofs.lemmas.List.{take_all, take_more, length-take-le}
use Rattle.std.proofs.lemmas.List.Sums.{fold-append}

-- one item more at the end
enumerate-more :
    {A : Type 0} (n m : ℕ) (xs : List A) (x : A) → m ≡ n + length xs → enumerate_from n (xs ++ x ∷ []) ≡ enumerate_from n xs ++ (m, x) ∷ []
enumerate-more n m [] x e = ap (λ k. (k, x) ∷ []) (let h : n ≡ m = omega arith in h)
enumerate-more n m (y ∷ xs) x e = ap (λ zs. (n, y) ∷ zs) (enumerate-more (n + 1) m xs x (omega arith))

enumerate-taken :
    {A : Type 0} (xs : List A) (i : ℕ) (d : A) → i < length xs → enumerate_from 0 (take (i + 1) xs) ≡ enumerate_from 0 (take i xs) ++ (i, get_or xs i d) ∷ []
enumerate-taken xs i d h =
    let e : length (take i xs) ≡ i = length-take-le i xs (omega arith) in
    ap (enumerate_from 0) (take_more xs i d h) ∙ enumerate-more 0 i (take i xs) (get_or xs i d) (omega arith)

-- what the fold is after one item more, and after all
pub folded-more :
    {A B : Type 0} (f : B → ℕ → A → B) (b : B) (xs : List A) (i : ℕ) (d : A) (now later : B) → i < length xs
    → now ≡ fold (λ z x. f z x.0 x.1) b (enumerate_from 0 (take i xs)) → later ≡ f now i (get_or xs i d)
    → later ≡ fold (λ z x. f z x.0 x.1) b (enumerate_from 0 (take (i + 1) xs))
folded-more f b xs i d now later h e g =
    g ∙ ap (λ z. f z i (get_or xs i d)) e ∙ sym (fold-append (λ z x. f z x.0 x.1) b (enumerate_from 0 (take i xs)) ((i, get_or xs i d) ∷ []))
    ∙ ap (fold (λ z x. f z x.0 x.1) b) (sym (enumerate-taken xs i d h))

pub folded-all :
    {A B : Type 0} (f : B → ℕ → A → B) (b : B) (xs : List A) (i : ℕ) (now : B) → length xs ≤ i
    → now ≡ fold (λ z x. f z x.0 x.1) b (enumerate_from 0 (take i xs)) → now ≡ fold (λ z x. f z x.0 x.1) b (enumerate_from 0 xs)
folded-all f b xs i now h e = e ∙ ap (λ zs. fold (λ z x. f z x.0 x.1) b (enumerate_from 0 zs)) (take_all i xs h)
