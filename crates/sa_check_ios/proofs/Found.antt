-- A test finds an element exactly where some element passes it.
use Rattle.std.proofs.Common.{◌≡◌, Bool, true, false, ◌||◌, cond, List, [], ◌∷◌, Option, Some, None, refl, ◌∙◌}
use Rattle.std.specs.Prelude.{find}
use Rattle.std.specs.List.{list_any}
use Rattle.std.specs.Option.{is_some, option_map}

some-cond : {X : Type 0} (b : Bool) (x : X) (o : Option X) (rest : Bool) → is_some o ≡ rest → is_some (cond b (Some x) o) ≡ (b || rest)
some-cond true x o rest same = refl
some-cond false x o rest same = same

pub some-find : {X : Type 0} (test : X → Bool) (xs : List X) → is_some (find test xs) ≡ list_any test xs
some-find test [] = refl
some-find test (x ∷ xs) = some-cond (test x) x (find test xs) (list_any test xs) (some-find test xs)

-- and so does what is made of it
some-map : {X Y : Type 0} (f : X → Y) (o : Option X) → is_some (option_map f o) ≡ is_some o
some-map f None = refl
some-map f (Some x) = refl

pub some-find-map : {X Y : Type 0} (f : X → Y) (test : X → Bool) (xs : List X) → is_some (option_map f (find test xs)) ≡ list_any test xs
some-find-map f test xs = some-map f (find test xs) ∙ some-find test xs
