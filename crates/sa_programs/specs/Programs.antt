-- Which program each thread runs, as far as the items of a trace tell: thread 0 of a space runs its program 0, and each `fork` makes the next
-- thread, which runs the program that it names.
use Rattle.std.specs.Prelude.{ℕ, List, [], ◌∷◌, ◌++◌, replicate, slice_get, slice_set, slice_index_or, Option, Some, None}
use Rattle.sa_base.specs.declared.number.SpaceNo.{SpaceNo}
use Rattle.sa_base.specs.declared.number.ThreadNo.{ThreadNo}
use Rattle.sa_base.specs.declared.record.Record.{Record}
use Rattle.sa_base.specs.declared.record.Record.TheVariants.{Ins}
use Rattle.sa_instr.specs.declared.instr.Instr.{Instr}
use Rattle.sa_instr.specs.declared.instr.Instr.TheVariants.{Fork}
use Rattle.sa_spaces.specs.Workload.{WorkloadView}
use Rattle.sa_laws.specs.State.{space_def}

-- of each space the programs of its threads, by their numbers: before any item
abbrev pub first_programs : ℕ → List (List ℕ)
first_programs spaces = replicate spaces (0 ∷ [])

abbrev pub program_of : List (List ℕ) → SpaceNo → ThreadNo → Option ℕ
program_of programs s t = slice_get (slice_index_or programs s.0 []) t.0

-- the instruction at a place of a program of a space, if there is one
abbrev pub instr_at : WorkloadView → SpaceNo → ℕ → ℕ → Option Instr
instr_at w s program pc = slice_get (slice_index_or (space_def w s).programs program []) pc

abbrev pub instr_by : WorkloadView → SpaceNo → ℕ → Option ℕ → Option Instr
instr_by w s pc None = None
instr_by w s pc (Some program) = instr_at w s program pc

-- the instruction that a record runs, if it is known
abbrev pub instr_in : WorkloadView → List (List ℕ) → Record → Option Instr
instr_in w programs (Ins s t i) = instr_by w s i (program_of programs s t)
instr_in w programs _ = None

-- after a record that runs this instruction
abbrev pub with_program : List (List ℕ) → SpaceNo → ℕ → List (List ℕ)
with_program programs s program = slice_set programs s.0 (slice_index_or programs s.0 [] ++ program ∷ [])

abbrev pub with_fork : List (List ℕ) → SpaceNo → Option Instr → List (List ℕ)
with_fork programs s (Some (Fork r program)) = with_program programs s program
with_fork programs s _ = programs

abbrev pub programs_by : List (List ℕ) → Record → Option Instr → List (List ℕ)
programs_by programs (Ins s t i) instr = with_fork programs s instr
programs_by programs _ instr = programs

abbrev pub programs_after : WorkloadView → List (List ℕ) → Record → List (List ℕ)
programs_after w programs x = programs_by programs x (instr_in w programs x)
