-- What is left of a list.
use Rattle.std.proofs.Common.{◌≡◌, ℕ, zero, suc, ◌+◌, List, [], ◌∷◌, map, drop, slice_get, refl, ap, subst, add-one, ◌∙◌, arith}
use Rattle.std.specs.Prelude.{All}
use Rattle.std.proofs.lemmas.List.{length-map}
use Rattle.std.proofs.Math.ListN.{get_or-map}

pub slice_get-drop : {A : Type 0} (xs : List A) (n : ℕ) → slice_get (drop n xs) 0 ≡ slice_get xs n
slice_get-drop xs zero = refl
slice_get-drop [] (suc n) = refl
slice_get-drop (x ∷ xs) (suc n) = slice_get-drop xs n

drop-suc : {A : Type 0} (xs : List A) (n : ℕ) → drop (suc n) xs ≡ drop 1 (drop n xs)
drop-suc xs zero = refl
drop-suc [] (suc n) = refl
drop-suc (x ∷ xs) (suc n) = drop-suc xs n

pub drop-next : {A : Type 0} (xs : List A) (n : ℕ) → drop (n + 1) xs ≡ drop 1 (drop n xs)
drop-next xs n = ap (λ m. drop m xs) (add-one n) ∙ drop-suc xs n

pub All-from_map : {A B : Type 0} (P : B → Type 0) (f : A → B) (xs : List A) → All P (map f xs) → All (λ x. P (f x)) xs
All-from_map P f xs h = λ k d there. subst P (get_or-map f xs k d) (h k (f d) (omega (arith, length-map xs f)))
