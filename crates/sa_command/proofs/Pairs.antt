-- The words of options, in pairs.
use Rattle.std.proofs.Common.{◌≡◌, ◌≤◌, ◌<◌, ℕ, List, [], ◌∷◌, map, length, get_or, drop, Some, None, refl, sym, ap, ◌∙◌, arith, length-drop, take, take_all, ◌-◌}
use Rattle.std.proofs.lemmas.List.{length-map}
use Rattle.std.specs.Prelude.{option_and_then}
use Rattle.sa_lemmas.proofs.ListReads.{two_first}
use Rattle.sa_command.specs.declared.options.Options.{Options}
use Rattle.sa_command.specs.declared.options.Settings.{Settings}
use Rattle.sa_command.specs.Commands.{settings_of, with_option}

-- one word alone is no option
lone_word : (taken : Options) (s : Settings) (words : List (List ℕ)) → 1 ≤ length words → length words < 2 → settings_of taken s words ≡ None
lone_word taken s [] some few = absurd (omega arith)
lone_word taken s (word ∷ []) some few = refl
lone_word taken s (word ∷ other ∷ words) some few = absurd (omega arith)

pub no_pair : {X : Type 0} (f : X → List ℕ) (taken : Options) (s : Settings) (xs : List X) → 1 ≤ length xs → length xs < 2
    → None ≡ settings_of taken s (map f xs)
no_pair f taken s xs some few = sym (lone_word taken s (map f xs) (omega (arith, length-map xs f)) (omega (arith, length-map xs f)))

-- a pair is set before the others
pub pair_first : {X : Type 0} (f : X → List ℕ) (taken : Options) (s t : Settings) (xs : List X) (a b : X) → 2 ≤ length xs → a ≡ get_or xs 0 a
    → b ≡ get_or xs 1 b → with_option taken s (f a) (f b) ≡ Some t
    → settings_of taken t (map f (take (length xs - 2) (drop 2 xs))) ≡ settings_of taken s (map f xs)
pair_first f taken s t xs a b two first second set =
    ap (λ ys. settings_of taken t (map f ys)) (take_all (length xs - 2) (drop 2 xs) (omega (arith, length-drop 2 xs)))
    ∙ sym (ap (λ ys. settings_of taken s (map f ys)) (two_first xs a b two first second)
    ∙ ap (option_and_then (λ u. settings_of taken u (map f (drop 2 xs)))) set)
