-- What is made of one thing after another, up to the first fault.
use Rattle.std.specs.Prelude.{List, [], ◌∷◌, Result, Ok}
use Rattle.toga_diagnostic.specs.declared.cause.Fault.{Fault}
use Rattle.toga_draft.specs.Reading.{◌>>=◌}

-- what is made of each item, or the first fault
abbrev pub each : {A B : Type 0} → (A → Result B Fault) → List A → Result (List B) Fault
each f [] = Ok []
each f (x ∷ xs) = f x >>= λ y. each f xs >>= λ ys. Ok (y ∷ ys)
