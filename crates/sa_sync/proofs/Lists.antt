-- Two lists side by side.
use Rattle.std.proofs.Common.{◌≡◌, ℕ, zero, suc, ◌+◌, ◌≤◌, List, [], ◌∷◌, length, map, take, drop, set, replicate, refl, ap, arith}
use Rattle.std.specs.Simd.Lanes.{zip2}

pub zip2-set : {X Y Z : Type 0} (f : X → Y → Z) (xs : List X) (ys : List Y) (i : ℕ) (x : X) (y : Y)
    → zip2 f (set xs i x) (set ys i y) ≡ set (zip2 f xs ys) i (f x y)
zip2-set f [] ys i x y = refl
zip2-set f (a ∷ xs) [] zero x y = refl
zip2-set f (a ∷ xs) [] (suc i) x y = refl
zip2-set f (a ∷ xs) (b ∷ ys) zero x y = refl
zip2-set f (a ∷ xs) (b ∷ ys) (suc i) x y = ap (λ zs. f a b ∷ zs) (zip2-set f xs ys i x y)

-- what lies past the shorter list is not looked at
pub zip2-set_past : {X Y Z : Type 0} (f : X → Y → Z) (xs : List X) (ys : List Y) (i : ℕ) (y : Y) → length xs ≤ i → zip2 f xs (set ys i y) ≡ zip2 f xs ys
zip2-set_past f [] ys i y h = refl
zip2-set_past f (a ∷ xs) [] i y h = refl
zip2-set_past f (a ∷ xs) (b ∷ ys) zero y h = absurd (omega arith)
zip2-set_past f (a ∷ xs) (b ∷ ys) (suc i) y h = ap (λ zs. f a b ∷ zs) (zip2-set_past f xs ys i y (omega arith))

pub map-zip2 : {X Y Z : Type 0} (f : X → Y → Z) (g : Z → Y) → ((x : X) (y : Y) → g (f x y) ≡ y) → (xs : List X) (ys : List Y)
    → map g (zip2 f xs ys) ≡ take (length xs) ys
map-zip2 f g e [] ys = refl
map-zip2 f g e (x ∷ xs) [] = refl
map-zip2 f g e (x ∷ xs) (y ∷ ys) = rw (e x y) (ap (λ zs. y ∷ zs) (map-zip2 f g e xs ys))

pub zip2-replicate : {X Y Z : Type 0} (f : X → Y → Z) (xs : List X) (n : ℕ) (y : Y) → length xs ≤ n → zip2 f xs (replicate n y) ≡ map (λ x. f x y) xs
zip2-replicate f [] n y h = refl
zip2-replicate f (x ∷ xs) zero y h = absurd (omega arith)
zip2-replicate f (x ∷ xs) (suc n) y h = ap (λ zs. f x y ∷ zs) (zip2-replicate f xs n y (omega arith))

pub length_zip2 : {X Y Z : Type 0} (f : X → Y → Z) (xs : List X) (ys : List Y) → length xs ≤ length ys → length (zip2 f xs ys) ≡ length xs
length_zip2 f [] ys h = refl
length_zip2 f (x ∷ xs) [] h = absurd (omega arith)
length_zip2 f (x ∷ xs) (y ∷ ys) h = ap suc (length_zip2 f xs ys (omega arith))

pub map-replicate : {X Y : Type 0} (f : X → Y) (n : ℕ) (x : X) → map f (replicate n x) ≡ replicate n (f x)
map-replicate f zero x = refl
map-replicate f (suc n) x = ap (λ ys. f x ∷ ys) (map-replicate f n x)

pub drop-replicate : {X : Type 0} (n k m : ℕ) (x : X) → k ≡ n + m → drop n (replicate k x) ≡ replicate m x
drop-replicate zero k m x e = let same : k ≡ m = omega arith in ap (λ z. replicate z x) same
drop-replicate (suc n) zero m x e = absurd (omega arith)
drop-replicate (suc n) (suc k) m x e = drop-replicate n k m x (omega arith)

pub take-replicate : {X : Type 0} (n k m : ℕ) (x : X) → k ≡ n + m → take n (replicate k x) ≡ replicate n x
take-replicate zero k m x e = refl
take-replicate (suc n) zero m x e = absurd (omega arith)
take-replicate (suc n) (suc k) m x e = ap (λ ys. x ∷ ys) (take-replicate n k m x (omega arith))
