-- What a contract sees of the names of a source.
use Rattle.std.specs.Prelude.{ℕ, List, [], slice_index_or, slice_get}
use Rattle.std.specs.Option.{option_map, unwrap_or}
use Rattle.toga_source.specs.declared.names.Label.{Label}

-- the names of a program: its own, and those of its places
pub record ProgramView : Type 0 where
  pub name : List ℕ
  pub labels : List Label

-- the names of a space: its own, and those of what it declares
pub record NamesView : Type 0 where
  pub name : List ℕ
  pub mutexes : List (List ℕ)
  pub semaphores : List (List ℕ)
  pub cells : List (List ℕ)
  pub programs : List ProgramView

-- the name of this number; no bytes where there is none
abbrev pub name_at : List (List ℕ) → ℕ → List ℕ
name_at names number = slice_index_or names number []

-- the name of the program of this number
abbrev pub program_name : List ProgramView → ℕ → List ℕ
program_name programs number = unwrap_or (option_map (λ p. p.name) (slice_get programs number)) []
