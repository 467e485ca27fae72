-- What short histories are written with: one processor and one space, the workload of one program, and an event of that processor.
use Rattle.std.specs.Prelude.{ℕ, List, [], ◌∷◌}
use Rattle.sa_base.specs.declared.number.ProcNo.{ProcNo}
use Rattle.sa_base.specs.declared.number.SpaceNo.{SpaceNo}
use Rattle.sa_base.specs.declared.number.ThreadNo.{ThreadNo}
use Rattle.sa_base.specs.declared.number.ActNo.{ActNo}
use Rattle.sa_base.specs.declared.record.Record.{Record}
use Rattle.sa_instr.specs.declared.instr.Instr.{Instr}
use Rattle.sa_instr.specs.declared.instr.Instr.TheVariants.{End}
use Rattle.sa_spaces.specs.Space.{SpaceView}
use Rattle.sa_spaces.specs.Workload.{WorkloadView}
use Rattle.sa_laws.specs.Event.{Event}

-- one processor, and one space with these programs
abbrev pub space_of : List (List Instr) → SpaceView
space_of programs = record {
  priority = 0;
  mutexes = 0;
  sems = [];
  cells = 0;
  absent = [];
  programs = programs;
  patience = 1;
}

abbrev pub workload_of : List (List Instr) → WorkloadView
workload_of programs =
    record { processors = 1; fetch = 10; spaces = space_of programs ∷ []; evictions = []; turns = []; slice = 0 }

-- with one program
abbrev pub workload_with : List Instr → WorkloadView
workload_with program = workload_of (program ∷ [])

-- the smallest workload: its program is `end`
abbrev pub smallest : WorkloadView
smallest = workload_with (End ∷ [])

abbrev pub p0 : ProcNo
p0 = record { 0 = 0 }

abbrev pub s0 : SpaceNo
s0 = record { 0 = 0 }

abbrev pub t0 : ThreadNo
t0 = record { 0 = 0 }

abbrev pub act : ℕ → ActNo
act n = record { 0 = n }

-- an event of processor 0
abbrev pub at : ℕ → List Record → Event
at n records = record { number = n; proc = p0; records = records }
