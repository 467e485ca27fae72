-- Spaces and the workload of a draft.
use Rattle.std.specs.Prelude.{List, length, Result, Ok}
use Rattle.sa_instr.specs.declared.instr.Instr.{Instr}
use Rattle.sa_spaces.specs.Space.{SpaceView}
use Rattle.sa_spaces.specs.Workload.{WorkloadView}
use Rattle.toga_diagnostic.specs.declared.cause.Fault.{Fault}
use Rattle.toga_draft.specs.Draft.{DraftView, SpaceDraftView, value_or}
use Rattle.toga_draft.specs.Reading.{◌>>=◌}
use Rattle.toga_read.specs.Outcome.{each}
use Rattle.toga_read.specs.Operands.{programs_of}
use Rattle.toga_read.specs.Evictions.{evictions_of, pages_in}

-- a space with these programs
abbrev pub space_with : SpaceDraftView → List (List Instr) → SpaceView
space_with space programs = record {
  priority = value_or space.priority 0;
  mutexes = length space.mutexes;
  sems = space.starts;
  cells = length space.cells;
  absent = pages_in space.absent;
  programs = programs;
  patience = value_or space.patience 1;
}

unfoldable pub space_of : SpaceDraftView → Result SpaceView Fault
space_of space = programs_of space >>= λ programs. Ok (space_with space programs)

-- a workload of these spaces
abbrev pub workload_with : DraftView → List SpaceView → WorkloadView
workload_with draft spaces = record {
  processors = value_or draft.processors 2;
  fetch = value_or draft.fetch 10;
  spaces = spaces;
  evictions = evictions_of draft.spaces;
  turns = draft.turns;
  slice = value_or draft.slice 0;
}

unfoldable pub workload_of : DraftView → Result WorkloadView Fault
workload_of draft = each space_of draft.spaces >>= λ spaces. Ok (workload_with draft spaces)
