-- The words of options, in pairs.
use Rattle.std.proofs.Common.{◌≡◌, ◌≤◌, ◌<◌, ℕ, List, [], ◌∷◌, map, length, get_or, drop, Some, None, refl, sym, ap, ◌∙◌, arith, length-drop, take, take_all, ◌-◌}
use Rattle.std.proofs.lemmas.List.{length-map}
use Rattle.std.specs.Prelude.{option_and_then}
use Rattle.sa_lemmas.proofs.ListReads.{two_first}
use Rattle.sa_picture.specs.declared.request.Settings.{Settings}
use Rattle.sa_picture.specs.Request.{settings_of, with_option}

-- one word alone is no option
lone_word : (s : Settings) (words : List (List ℕ)) → 1 ≤ length words → length words < 2 → settings_of s words ≡ None
lone_word s [] some few = absurd (omega arith)
lone_word s (word ∷ []) some few = refl
lone_word s (word ∷ other ∷ words) some few = absurd (omega arith)

pub no_pair : {X : Type 0} (f : X → List ℕ) (s : Settings) (xs : List X) → 1 ≤ length xs → length xs < 2 → None ≡ settings_of s (map f xs)
no_pair f s xs some few = sym (lone_word s (map f xs) (omega (arith, length-map xs f)) (omega (arith, length-map xs f)))

-- a pair is set before the others
pub pair_first : {X : Type 0} (f : X → List ℕ) (s t : Settings) (xs : List X) (a b : X) → 2 ≤ length xs → a ≡ get_or xs 0 a → b ≡ get_or xs 1 b
    → with_option s (f a) (f b) ≡ Some t
    → settings_of t (map f (take (length xs - 2) (drop 2 xs))) ≡ settings_of s (map f xs)
pair_first f s t xs a b two first second set =
    ap (λ ys. settings_of t (map f ys)) (take_all (length xs - 2) (drop 2 xs) (omega (arith, length-drop 2 xs)))
    ∙ sym (ap (λ ys. settings_of s (map f ys)) (two_first xs a b two first second) ∙ ap (option_and_then (λ u. settings_of u (map f (drop 2 xs)))) set)
