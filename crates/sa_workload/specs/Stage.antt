-- What a reader stands for: its position, its fields and its answers. What reads line by line cites this; no clause of what reads a whole
-- text does.
use Rattle.std.specs.Prelude.{◌≡◌, ℕ, List, length, codes, nat_lt, Option, None, Some, Result, Ok, Err, ⊤}
use Rattle.sa_base.specs.Cause.{cause_number}
use Rattle.sa_base.specs.declared.refusal.Unread.{Unread}
use Rattle.sa_base.specs.declared.refusal.Unread.TheVariants.{Bad as refused, OutOfMemory as memory}
use Rattle.sa_spaces.specs.Workload.{WorkloadView}
use Rattle.sa_workload.specs.declared.cause.Refusal.{Refusal}
use Rattle.sa_workload.specs.declared.cause.Refusal.TheVariants.{Because, OutOfMemory}
use Rattle.sa_workload.specs.declared.field.Field.{Field as TableField}
use Rattle.sa_workload.specs.declared.field.Field.TheVariants as Table
use Rattle.sa_workload.specs.declared.stage.Header.{Header}
use Rattle.sa_workload.specs.declared.stage.SpaceDraft.{SpaceDraft}
use Rattle.sa_workload.specs.declared.stage.MachineLine.{MachineLine}
use Rattle.sa_workload.specs.declared.stage.MachineLine.TheVariants.{Version, Processors, Fetch, Slice, Spaces}
use Rattle.sa_workload.specs.declared.stage.Stage.{Stage}
use Rattle.sa_workload.specs.declared.stage.Stage.TheVariants.{Machine as BeforeSpaces, Space, Sem, Absent, Program, Instr, Evict, Turn, Closed as Done}
use Rattle.sa_workload.specs.declared.stage.Reader.{Reader}
use Rattle.sa_workload.specs.Bad.{Field, Register, Number, within}
use Rattle.sa_workload.specs.Fields.{line_numbers}
use Rattle.sa_workload.specs.Position.{HeaderView, Draft, Position, AtVersion, AtProcessors, AtFetch, AtSlice, AtSpaces, AtSpace, AtSem, AtAbsent, AtProgram, AtInstr, AtEvict, AtTurn, Closed}
use Rattle.sa_workload.specs.Steps.{workload}

abbrev pub field_of : TableField → Field
field_of Table.Register = Register
field_of (Table.Within low high) = within low high
field_of (Table.Below count cause) = Number (λ n. nat_lt n count) (cause_number cause)

abbrev pub machine_of : Header → HeaderView
machine_of h = record { version = h.version; processors = h.processors; fetch = h.fetch; slice = h.slice; count = h.count }

abbrev pub draft_of : SpaceDraft → Draft
draft_of d = record {
  priority = d.priority;
  mutexes = d.mutexes;
  sem_count = d.sem_count;
  cells = d.cells;
  program_count = d.program_count;
  patience = d.patience;
  sems = d.sems.items;
  absent = d.absent.items;
  programs = d.programs.items;
}

-- a line before those of the spaces: its word, and the position before it
abbrev pub machine_word : MachineLine → List ℕ
machine_word Version = codes "workload"
machine_word Processors = codes "processors"
machine_word Fetch = codes "fetch"
machine_word Slice = codes "slice"
machine_word Spaces = codes "spaces"

abbrev pub machine_position : MachineLine → Header → Position
machine_position Version h = AtVersion
machine_position Processors h = AtProcessors h.version
machine_position Fetch h = AtFetch h.version h.processors
machine_position Slice h = AtSlice h.version h.processors h.fetch
machine_position Spaces h = AtSpaces h.version h.processors h.fetch h.slice

abbrev pub workload_of : Reader → WorkloadView
workload_of r = workload (machine_of r.header) r.spaces.items r.evictions.items r.turns.items

abbrev pub at_stage : Reader → Stage → Position
at_stage r (BeforeSpaces line) = machine_position line r.header
at_stage r Space = AtSpace (machine_of r.header) r.spaces.items
at_stage r Sem = AtSem (machine_of r.header) r.spaces.items (draft_of r.draft)
at_stage r Absent = AtAbsent (machine_of r.header) r.spaces.items (draft_of r.draft)
at_stage r Program = AtProgram (machine_of r.header) r.spaces.items (draft_of r.draft)
at_stage r Instr = AtInstr (machine_of r.header) r.spaces.items (draft_of r.draft) r.len r.instrs.items
at_stage r Evict = AtEvict (machine_of r.header) r.spaces.items r.evictions.items
at_stage r Turn = AtTurn (machine_of r.header) r.spaces.items r.evictions.items r.turns.items
at_stage r Done = Closed (workload_of r)

-- the position at which a reader is
abbrev pub position_of : Reader → Position
position_of r = at_stage r r.stage

-- as many numbers as the last line has
abbrev pub IsAsLong : List ℕ → Option (List ℕ) → Type 0
IsAsLong ns None = ⊤
IsAsLong ns (Some last) = length ns ≡ length last

-- the numbers are read from the words of some line with these fields
pub record AreNumbersOf (fields : List Field) (ns : List ℕ) : Type 0 where
  pub last : Option (List ℕ)
  pub words : List (List ℕ)
  pub read : line_numbers fields last words ≡ Ok ns

-- the reader is at this outcome, or the line is refused with it, or memory ran out
abbrev pub Gives : {A : Type 0} → Result Position ℕ → Position → Result A Refusal → Type 0
Gives outcome at (Ok _) = outcome ≡ Ok at
Gives outcome at (Err (Because cause)) = outcome ≡ Err (cause_number cause)
Gives outcome at (Err OutOfMemory) = ⊤

-- the refusal of the line of this number
abbrev pub unread_at : ℕ → Refusal → Unread
unread_at line (Because cause) = refused (record { line = line; why = cause_number cause })
unread_at line OutOfMemory = memory
