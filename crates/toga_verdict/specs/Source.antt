-- A source as far as words about its runs need it: names, and the lines of instructions.
use Rattle.std.specs.Prelude.{ℕ, ◌==◌, nat_lt, if◌then◌else◌, List, [], ◌++◌, length, take, drop, slice_get, slice_index_or, codes, decimal, Option, None, Some}
use Rattle.std.specs.List.{fold}
use Rattle.std.specs.Option.{option_map, unwrap_or}
use Rattle.sa_base.specs.declared.number.SpaceNo.{SpaceNo}
use Rattle.sa_base.specs.declared.number.ThreadNo.{ThreadNo}
use Rattle.sa_instr.specs.declared.instr.Instr.{Instr}
use Rattle.sa_spaces.specs.Space.{SpaceView}
use Rattle.sa_spaces.specs.Workload.{WorkloadView}
use Rattle.sa_laws.specs.State.{space_def}
use Rattle.sa_programs.specs.Programs.{program_of}
use Rattle.toga_source.specs.declared.names.Label.{Label}
use Rattle.toga_source.specs.Names.{NamesView}
use Rattle.toga_source.specs.Words.{names_of, thread_name}

-- the workload, the names of its spaces, and the lines of its instructions, in the order of spaces, programs and places
pub record SourceView : Type 0 where
  pub workload : WorkloadView
  pub names : List NamesView
  pub lines : List ℕ

-- the lines after those of some programs, and of all programs of some spaces
abbrev pub lines_behind : List ℕ → List (List Instr) → List ℕ
lines_behind lines programs = fold (λ rest program. drop (length program) rest) lines programs

abbrev pub lines_behind_spaces : List ℕ → List SpaceView → List ℕ
lines_behind_spaces lines spaces = fold (λ rest (space : SpaceView). lines_behind rest space.programs) lines spaces

-- the line of the instruction at a place of a program of a space; 0 if there is none
abbrev pub line_at : SourceView → SpaceNo → ℕ → ℕ → ℕ
line_at x s program place =
    slice_index_or (lines_behind (lines_behind_spaces x.lines (take s.0 x.workload.spaces)) (take program (space_def x.workload s).programs)) place 0

-- the labels of a program of a space
abbrev pub labels_of : List NamesView → SpaceNo → ℕ → List Label
labels_of names s program = unwrap_or (option_map (λ p. p.labels) (slice_get (names_of names s).programs program)) []

-- a space by its name, or by its number if it has none; one that may be absent
abbrev pub space_word : List NamesView → SpaceNo → List ℕ
space_word names s = codes "space " ++ (if nat_lt s.0 (length names) then (names_of names s).name else decimal s.0)

abbrev pub space_if : List NamesView → Option SpaceNo → List ℕ
space_if names None = codes "no space"
space_if names (Some s) = space_word names s

-- a thread by its name if its program is known, and else by its number; one that may be absent
abbrev pub thread_by : List NamesView → SpaceNo → ThreadNo → Option ℕ → List ℕ
thread_by names s t None = codes "thread " ++ decimal t.0
thread_by names s t (Some program) = thread_name names s program t

abbrev pub thread_word : List NamesView → List (List ℕ) → SpaceNo → ThreadNo → List ℕ
thread_word names programs s t = thread_by names s t (program_of programs s t)

abbrev pub thread_if : List NamesView → List (List ℕ) → SpaceNo → Option ThreadNo → List ℕ
thread_if names programs s None = codes "no thread"
thread_if names programs s (Some t) = thread_word names programs s t
