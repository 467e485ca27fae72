-- Lists with one element more at the end: what holds of the whole holds of its front and of its last element.
use Rattle.std.proofs.Common.{◌≡◌, ℕ, ◌⊎◌, Bool, true, ◌&&◌, List, [], ◌∷◌, ◌++◌, length, get_or, ◌<◌, ◌-◌, Some, All, arith, refl, ap, ◌∙◌, subst, inl, inr, eqb, eq-eqb, ne_eqb, ◌≢◌}
use Rattle.std.specs.List.{list_all}
use Rattle.std.proofs.lemmas.List.{get_or_push, get_or_append_left, length_push}
use Rattle.std.proofs.lemmas.List.Elements.{All-nil, All-cons, All-head, All-tail}
use Rattle.std.proofs.lemmas.Bool.{cases_eq, and_parts}
use Rattle.std.proofs.lemmas.Option.{slice_get-get_or}
use Rattle.sa_workload.specs.Next.{last_of}

-- the last of a list, where there is one
pub last_is : {X : Type 0} (xs : List X) (d : X) → 0 < length xs → last_of xs ≡ Some (get_or xs (length xs - 1) d)
last_is xs d h = slice_get-get_or xs (length xs - 1) d (omega arith)

pub last_of-push : {X : Type 0} (xs : List X) (x : X) → last_of (xs ++ x ∷ []) ≡ Some x
last_of-push xs x =
    last_is (xs ++ x ∷ []) x (omega (arith, length_push xs x))
    ∙ ap Some (get_or_push xs x x (length (xs ++ x ∷ []) - 1) (omega (arith, length_push xs x)))

pub All-front : {X : Type 0} (P : X → Type 0) (xs : List X) (y : X) → All P (xs ++ y ∷ []) → All P xs
All-front P xs y h = λ k d l. subst P (get_or_append_left xs (y ∷ []) d k l) (h k d (omega (arith, length_push xs y)))

pub All-last : {X : Type 0} (P : X → Type 0) (xs : List X) (y : X) → All P (xs ++ y ∷ []) → P y
All-last P xs y h = subst P (get_or_push xs y y (length xs) refl) (h (length xs) y (omega (arith, length_push xs y)))

-- a test of each element of a list
pub all_true : {X : Type 0} (f : X → ℕ) (n : ℕ) (xs : List X) → All (λ (x : X). f x ≡ n) xs → list_all (λ (x : X). eqb (f x) n) xs ≡ true
all_true f n [] h = refl
all_true {X} f n (x ∷ xs) h =
    ap (λ (b : Bool). b && list_all (λ (x : X). eqb (f x) n) xs) (eq-eqb (f x) n (All-head (λ (x : X). f x ≡ n) x xs h))
    ∙ all_true f n xs (All-tail (λ (x : X). f x ≡ n) x xs h)

pub true_all : {X : Type 0} (f : X → ℕ) (n : ℕ) (xs : List X) → list_all (λ (x : X). eqb (f x) n) xs ≡ true → All (λ (x : X). f x ≡ n) xs
true_all {X} f n [] h = All-nil (λ (x : X). f x ≡ n)
true_all {X} f n (x ∷ xs) h = by_test (cases_eq (f x) n) (true_all f n xs (and_parts (eqb (f x) n) (list_all (λ (x : X). eqb (f x) n) xs) h).1)
  where
    by_test : (f x ≡ n) ⊎ (f x ≢ n) → All (λ (x : X). f x ≡ n) xs → All (λ (x : X). f x ≡ n) (x ∷ xs)
    by_test (inl e) rest = All-cons (λ (x : X). f x ≡ n) x xs e rest
    by_test (inr ne) rest = absurd (cc (ap (λ (b : Bool). b && list_all (λ (x : X). eqb (f x) n) xs) (ne_eqb (f x) n ne), h))
