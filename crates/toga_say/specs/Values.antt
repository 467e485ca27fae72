-- Lists of names with numbers: how many records of each kind there are, and what cells and semaphores hold.
use Rattle.std.specs.Prelude.{ℕ, ◌==◌, ◌++◌, List, [], ◌∷◌, length, if◌then◌else◌, codes, decimal, slice_index}
use Rattle.std.specs.List.{flat_map, enumerate_from}
use Rattle.sa_base.specs.declared.number.SpaceNo.{SpaceNo}
use Rattle.sa_base.specs.declared.record.Item.{Item}
use Rattle.sa_trace.specs.declared.kind.Kind.{Kind}
use Rattle.sa_trace.specs.declared.kind.Kind.TheVariants.{ToldAdd}
use Rattle.sa_trace.specs.Kind.{form_of}
use Rattle.sa_trace.specs.TraceText.{counts_of}
use Rattle.sa_sync.specs.Sync.{semaphore_at}
use Rattle.sa_laws.specs.State.{space_at}
use Rattle.sa_waits.specs.Waits.{all_below}
use Rattle.toga_source.specs.Names.{NamesView, name_at}
use Rattle.toga_source.specs.Show.{with_numbers}
use Rattle.toga_say.specs.declared.values.TheConstants.{KINDS}
use Rattle.toga_say.specs.Scene.{SceneView, of_space}
use Rattle.toga_say.specs.Names.{space_word}

pub record EntryView : Type 0 where
  pub name : List ℕ
  pub number : ℕ

abbrev pub entry : List ℕ → ℕ → EntryView
entry name number = record { name = name; number = number }

-- entries in one line, if there are any
abbrev pub entry_text : ℕ → EntryView → List ℕ
entry_text place e = (if place == 0 then [] else codes ", ") ++ e.name ++ codes " " ++ decimal e.number

unfoldable pub entries_line : List ℕ → List EntryView → List ℕ
entries_line begins entries = if length entries == 0 then [] else begins ++ with_numbers entry_text entries ++ codes "\n"

-- the kinds of records that came; the four notices are one kind
abbrev pub word_of : Kind → List ℕ
word_of ToldAdd = codes "told"
word_of kind = (form_of kind).word

abbrev pub record_entry : List ℕ → ℕ → Kind → List EntryView
record_entry counts place kind = if slice_index counts place == 0 then [] else entry (word_of kind) (slice_index counts place) ∷ []

abbrev pub record_entries : List Item → List EntryView
record_entries items = flat_map (λ x. record_entry (counts_of items) x.0 x.1) (enumerate_from 0 KINDS)

-- what the cells of the spaces hold
abbrev pub cell_entry : SceneView → NamesView → ℕ → ℕ → EntryView
cell_entry scene own place value = entry (space_word scene own ++ name_at own.cells place) value

abbrev pub cells_in : SceneView → SpaceNo → NamesView → List EntryView
cells_in scene s own = flat_map (λ x. cell_entry scene own x.0 x.1 ∷ []) (enumerate_from 0 (space_at scene.replay.state s).sync.cells)

abbrev pub cells_at : SceneView → ℕ → List EntryView
cells_at scene s = of_space scene (record { 0 = s }) (cells_in scene (record { 0 = s }))

abbrev pub cell_entries : SceneView → List EntryView
cell_entries scene = all_below (cells_at scene) (length scene.replay.state.spaces)

-- and the counts of their semaphores
abbrev pub semaphore_entry : SceneView → SpaceNo → NamesView → ℕ → List EntryView
semaphore_entry scene s own place =
    entry (space_word scene own ++ name_at own.semaphores place) (semaphore_at (space_at scene.replay.state s).sync place).count ∷ []

abbrev pub semaphores_in : SceneView → SpaceNo → NamesView → List EntryView
semaphores_in scene s own = all_below (semaphore_entry scene s own) (length (space_at scene.replay.state s).sync.semaphores)

abbrev pub semaphores_at : SceneView → ℕ → List EntryView
semaphores_at scene s = of_space scene (record { 0 = s }) (semaphores_in scene (record { 0 = s }))

abbrev pub semaphore_entries : SceneView → List EntryView
semaphore_entries scene = all_below (semaphores_at scene) (length scene.replay.state.spaces)

unfoldable pub values_text : SceneView → List ℕ
values_text scene =
    entries_line (codes "records: ") (record_entries scene.items) ++ entries_line (codes "cells: ") (cell_entries scene)
    ++ entries_line (codes "semaphores: ") (semaphore_entries scene)
