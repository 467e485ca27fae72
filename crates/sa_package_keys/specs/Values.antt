-- What the codes of a user level have to say.
use Rattle.std.specs.Prelude.{◌≡◌, ℕ, List, ◌++◌, Option, Some}
use Rattle.sa_spaces.specs.Space.{SpaceView}
use Rattle.sa_abstract.specs.Setting.{Setting}
use Rattle.sa_abstract.specs.Calls.{Contexts}
use Rattle.sa_abstract.specs.Keeps.{Standing}

-- the value stands beside the contexts of its space's activations
pub record IsStood {U C : Type 0} (stands : Standing U C) (u : U) : Type 0 where
  pub setting : Setting
  pub event : ℕ
  pub others : Contexts C
  pub value : stands setting event u others

module _ {U C : Type 0} where
  -- of two values that were made for spaces of one setting and stand there: the code says which it is, and where it ends
  abbrev pub TellsValues : Standing U C → (Option SpaceView → U → Type 0) → (U → List ℕ) → Type 0
  TellsValues stands IsMade code =
      (s : Setting) (d e : ℕ) (u v : U) (cs ds : Contexts C) (r t : List ℕ) → stands s d u cs → stands s e v ds
      → IsMade (Some s.def) u → IsMade (Some s.def) v
      → code u ++ r ≡ code v ++ t → (u ≡ v) × (r ≡ t)
