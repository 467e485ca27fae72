-- The line of an instruction, of a list that has them in the order of spaces, programs and places.
use Rattle.std.specs.Prelude.{ℕ, List, [], length, take, drop, slice_index}
use Rattle.std.specs.List.{fold}
use Rattle.sa_base.specs.declared.number.SpaceNo.{SpaceNo}
use Rattle.sa_instr.specs.declared.instr.Instr.{Instr}
use Rattle.sa_spaces.specs.Space.{SpaceView}
use Rattle.sa_spaces.specs.Workload.{WorkloadView}
use Rattle.sa_laws.specs.State.{space_def}

-- the lines behind those of some programs, and of some spaces
abbrev pub behind_programs : List ℕ → List (List Instr) → List ℕ
behind_programs lines programs = fold (λ rest (program : List Instr). drop (length program) rest) lines programs

abbrev pub behind_spaces : List ℕ → List SpaceView → List ℕ
behind_spaces lines spaces = fold (λ rest (space : SpaceView). behind_programs rest space.programs) lines spaces

-- the line of the instruction at a place of a program of a space
abbrev pub line_at : WorkloadView → List ℕ → SpaceNo → (program place : ℕ) → ℕ
line_at w lines s program place =
    slice_index (behind_programs (behind_spaces lines (take s.0 w.spaces)) (take program (space_def w s).programs)) place
