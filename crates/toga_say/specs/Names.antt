-- The names of threads, and an instruction with its line.
use Rattle.std.specs.Prelude.{ℕ, ◌++◌, List, [], length, nat_lt, if◌then◌else◌, codes, decimal, slice_get}
use Rattle.std.specs.Option.{option_map, unwrap_or}
use Rattle.sa_base.specs.declared.number.SpaceNo.{SpaceNo}
use Rattle.sa_base.specs.declared.number.ThreadNo.{ThreadNo}
use Rattle.sa_laws.specs.State.{State, thread_at, instr_of}
use Rattle.toga_source.specs.declared.names.Label.{Label}
use Rattle.toga_source.specs.Names.{ProgramView, NamesView, program_name}
use Rattle.toga_source.specs.Show.{instr_text}
use Rattle.toga_say.specs.Scene.{SceneView}
use Rattle.toga_say.specs.Lines.{line_at}

-- the name of a space in front of what is in it, if there are several
abbrev pub space_word : SceneView → NamesView → List ℕ
space_word scene own = if nat_lt 1 (length scene.replay.state.spaces) then own.name ++ codes "/" else []

-- a thread, by the program that it runs and its number
unfoldable pub thread_name : SceneView → NamesView → SpaceNo → ThreadNo → List ℕ
thread_name scene own s t =
    space_word scene own ++ program_name own.programs (thread_at scene.replay.state s t).program ++ codes "#" ++ decimal t.0

-- the labels of a program
abbrev pub labels_of : List ProgramView → ℕ → List Label
labels_of programs number = unwrap_or (option_map (λ p. p.labels) (slice_get programs number)) []

-- the instruction at a place of a thread's program, with its line
abbrev pub line_of : SceneView → SpaceNo → ThreadNo → (place : ℕ) → ℕ
line_of scene s t place = line_at scene.replay.workload scene.lines s (thread_at scene.replay.state s t).program place

abbrev pub text_of : SceneView → NamesView → SpaceNo → ThreadNo → (place : ℕ) → List ℕ
text_of scene own s t place =
    instr_text own (labels_of own.programs (thread_at scene.replay.state s t).program) (instr_of scene.replay.workload scene.replay.state s t place)

unfoldable pub place_text : SceneView → NamesView → SpaceNo → ThreadNo → (place : ℕ) → List ℕ
place_text scene own s t place = codes "line " ++ decimal (line_of scene s t place) ++ codes ", `" ++ text_of scene own s t place ++ codes "`"
