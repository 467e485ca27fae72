-- The machine after a history, with the names and the lines of its source.
use Rattle.std.specs.Prelude.{ℕ, List, [], slice_get}
use Rattle.std.specs.Option.{option_map, unwrap_or}
use Rattle.sa_base.specs.declared.number.SpaceNo.{SpaceNo}
use Rattle.sa_base.specs.declared.record.Item.{Item}
use Rattle.sa_replay.specs.Replayed.{Replayed}
use Rattle.toga_source.specs.Names.{NamesView}

pub record SceneView : Type 0 where
  pub replay : Replayed
  -- the history that led there
  pub items : List Item
  -- of each space of the source: its name, and those of what it declares
  pub names : List NamesView
  -- of each instruction of the source: its line
  pub lines : List ℕ

-- what is made of the names of a space; nothing, if it has none
abbrev pub of_space : {A : Type 0} → SceneView → SpaceNo → (NamesView → List A) → List A
of_space scene s f = unwrap_or (option_map f (slice_get scene.names s.0)) []
