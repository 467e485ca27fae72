-- Bytes that are added one after another.
use Rattle.std.proofs.Common.{◌≡◌, ℕ, ◌+◌, ◌≤◌, List, [], ◌∷◌, ◌++◌, length, map, take, take_all, Some, Result, OnOk, slice_get, sym, ap, subst, ◌∙◌, append_assoc}
use Rattle.std.proofs.lemmas.List.{length-map, map-append, take_more}
use Rattle.std.proofs.lemmas.Option.{slice_get_within, get_or_from_slice_get}
use Rattle.std.specs.List.{flat_map, range_with_len}
use Rattle.sa_lemmas.proofs.Texts.{appended_twice}
use Rattle.sa_package_keys.specs.Codes.{number, list}
use Rattle.sa_package_keys.proofs.Loops.{range_more, list_more, flat_map_map}

-- of the numbers below n, and of n
pub range-step : (f : ℕ → List ℕ) (old now after : List ℕ) (n : ℕ) → now ≡ old ++ flat_map f (range_with_len 0 n) → after ≡ now ++ f n
    → after ≡ old ++ flat_map f (range_with_len 0 (n + 1))
range-step f old now after n so_far then =
    appended_twice old (flat_map f (range_with_len 0 n)) (f n) now after so_far then ∙ ap (λ (z : List ℕ). old ++ z) (sym (range_more f n))

-- of the first i of a list, and of the next one
pub list-step : {A : Type 0} (f : A → List ℕ) (xs : List A) (old now after : List ℕ) (i : ℕ) (x : A) → slice_get xs i ≡ Some x
    → now ≡ old ++ flat_map f (take i xs) → after ≡ now ++ f x → after ≡ old ++ flat_map f (take (i + 1) xs)
list-step f xs old now after i x at so_far then =
    appended_twice old (flat_map f (take i xs)) (f x) now after so_far then ∙ ap (λ (z : List ℕ). old ++ z) (sym (list_more f xs i x at))

-- all of a list, behind how many there are
pub list-added : {A : Type 0} (f : A → List ℕ) (xs : List A) (old now : List ℕ) (n : ℕ) → length xs ≤ n → now ≡ (old ++ number (length xs)) ++ flat_map f (take n xs)
    → now ≡ old ++ list f xs
unfolding list
list-added f xs old now n all is =
    is ∙ ap (λ (z : List _). (old ++ number (length xs)) ++ flat_map f z) (take_all n xs all) ∙ append_assoc old (number (length xs)) (flat_map f xs)

pub list-map : {A B : Type 0} (f : B → List ℕ) (g : A → B) (xs : List A) → list f (map g xs) ≡ list (λ x. f (g x)) xs
unfolding list
list-map f g xs = ap (λ n. number n ++ flat_map f (map g xs)) (length-map xs g) ∙ ap (λ z. number (length xs) ++ z) (flat_map_map f g xs)

-- equal bytes were added, where any were
pub same-added : {E : Type 0} (r : Result (Unit {0}) E) (old now a b : List ℕ) → a ≡ b → OnOk r (now ≡ old ++ a) → OnOk r (now ≡ old ++ b)
same-added r old now a b is added = subst (λ (z : List ℕ). OnOk r (now ≡ old ++ z)) is added

-- of the first i of a list, and of the next one, each as it is seen in another list
pub map-step : {A B C : Type 0} (g : B → C) (f : A → C) (xs : List A) (old new : List B) (y : B) (i : ℕ) (x : A) → slice_get xs i ≡ Some x
    → map g old ≡ map f (take i xs) → new ≡ old ++ y ∷ [] → g y ≡ f x → map g new ≡ map f (take (i + 1) xs)
map-step {C = C} g f xs old new y i x at so_far then same =
    ap (map g) then ∙ map-append g old (y ∷ [])
    ∙ ap (λ (l : List C). l ++ g y ∷ []) so_far
    ∙ ap (λ (z : C). map f (take i xs) ++ z ∷ []) same
    ∙ sym (map-append f (take i xs) (x ∷ []))
    ∙ ap (λ z. map f (take i xs ++ z ∷ [])) (sym (get_or_from_slice_get xs i x x at))
    ∙ ap (map f) (sym (take_more xs i x (slice_get_within xs i x at)))
