-- What goes out of a text that is put piece by piece.
use Rattle.std.specs.Prelude.{◌≡◌, ℕ, List, ◌++◌, Option}
use Rattle.std.specs.Io.KnownBytes.{Appends}

-- some text was put after what waited: some of these bytes went out, and the others wait
pub record GoesOut (before after : Option (List ℕ)) (waited text waits : List ℕ) : Type 0 where
  pub sent : List ℕ
  pub taken : Appends before after sent
  pub whole : waited ++ text ≡ sent ++ waits
