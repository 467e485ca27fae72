-- What a line leads to from a position, or why it is refused there: the reader's contracts are equations to this.
use Rattle.std.specs.Prelude.{ℕ, ◌+◌, ◌-◌, Bool, true, false, ◌==◌, ◌&&◌, not, nat_le, if◌then◌else◌, List, [], ◌∷◌, ◌++◌, length, slice_get, slice_index, slice_index_or, Option, Some, None, Result, Ok, Err, codes}
use Rattle.sa_base.specs.Cause.{cause_number}
use Rattle.sa_base.specs.declared.refusal.Cause.TheVariants.{BadWord, TooMany, Missing}
use Rattle.std.specs.Option.{option_map, is_some}
use Rattle.std.specs.List.{list_all}
use Rattle.std.specs.Str.{bytes_eq}
use Rattle.sa_instr.specs.declared.limits.TheConstants.{MAX_EVICTIONS, MAX_TURNS}
use Rattle.sa_base.specs.declared.number.ProcNo.{ProcNo}
use Rattle.sa_instr.specs.declared.instr.Reg.{Reg}
use Rattle.sa_instr.specs.declared.instr.Reg.TheVariants.{R0, R1, R2, R3, R4, R5, R6, R7}
use Rattle.sa_instr.specs.declared.instr.Instr.{Instr}
use Rattle.sa_instr.specs.declared.instr.Instr.TheVariants.{End}
use Rattle.sa_instr.specs.declared.operand.Operand.{Operand}
use Rattle.sa_instr.specs.declared.operand.Operand.TheVariants.{Register, Value, Place, Cell, Program, Mutex, Semaphore, Length, Page}
use Rattle.sa_instr.specs.declared.operand.OperandKind.{OperandKind}
use Rattle.sa_instr.specs.declared.operand.OperandKind.TheVariants as Kinds
use Rattle.sa_instr.specs.declared.operation.Operation.{Operation}
use Rattle.sa_instr.specs.Operation.{form_of, operation_of}
use Rattle.sa_instr.specs.Parts.{instr_of}
use Rattle.sa_spaces.specs.declared.workload.Evict.{Evict}
use Rattle.sa_spaces.specs.Space.{SpaceView}
use Rattle.sa_workload.specs.Bad.{DeclaredNumbers, Field, fields_by}
use Rattle.sa_workload.specs.Fields.{and_then, index_of, line_numbers}
use Rattle.sa_workload.specs.Position.{HeaderView, Draft, Position, AtVersion, AtProcessors, AtFetch, AtSlice, AtSpaces, AtSpace, AtSem, AtAbsent, AtProgram, AtInstr, AtEvict, AtTurn, Closed}
use Rattle.sa_workload.specs.Steps.{expected, workload, with_sem, with_absent, after_fetch, after_sem, after_instr}

abbrev pub is_last_impatient : HeaderView → List SpaceView → Bool
is_last_impatient m spaces =
    nat_le m.count (length spaces + 1) && list_all (λ (s : SpaceView). s.patience == 1) spaces

abbrev pub nothing_declared : DeclaredNumbers
nothing_declared = record {
  version = 0;
  processors = 0;
  spaces = 0;
  mutexes = 0;
  semaphores = 0;
  cells = 0;
  programs = 0;
  instructions = 0;
  needs_patience = false;
}

abbrev pub machine_numbers : HeaderView → DeclaredNumbers
machine_numbers m = record nothing_declared { version = m.version; processors = m.processors; spaces = m.count }

abbrev pub draft_numbers : Draft → ℕ → DeclaredNumbers
draft_numbers d len = record nothing_declared {
  mutexes = d.mutexes;
  semaphores = d.sem_count;
  cells = d.cells;
  programs = d.program_count;
  instructions = len;
}

-- the declared numbers by which the next line is read at a position
abbrev pub numbers_at : Position → DeclaredNumbers
numbers_at (AtSlice version processors fetch) = record nothing_declared { version = version }
numbers_at (AtSpace m spaces) = record (machine_numbers m) { needs_patience = is_last_impatient m spaces }
numbers_at (AtInstr m spaces d len instrs) = draft_numbers d len
numbers_at (AtEvict m spaces evictions) = machine_numbers m
numbers_at (AtTurn m spaces evictions turns) = machine_numbers m
numbers_at _ = nothing_declared

-- there are as many lines of the word as there may be
abbrev pub is_full : Position → List ℕ → Bool
is_full (AtEvict m spaces evictions) word = bytes_eq word (codes "evict") && nat_le MAX_EVICTIONS (length evictions)
is_full (AtTurn m spaces evictions turns) word = bytes_eq word (codes "turn") && nat_le MAX_TURNS (length turns)
is_full _ word = false

abbrev pub last_of : {A : Type 0} → List A → Option A
last_of xs = slice_get xs (length xs - 1)

abbrev pub evict_numbers : Evict → List ℕ
evict_numbers e = e.event ∷ e.space.0 ∷ e.page ∷ []

-- the numbers of the last line, where a line of the word has to come after them
abbrev pub last_numbers : Position → List ℕ → Option (List ℕ)
last_numbers (AtAbsent m spaces d) word = if bytes_eq word (codes "absent") then option_map (λ page. page ∷ []) (last_of d.absent) else None
last_numbers (AtEvict m spaces evictions) word = if bytes_eq word (codes "evict") then option_map evict_numbers (last_of evictions) else None
last_numbers _ word = None

-- the numbers of a space line
abbrev pub draft_from : HeaderView → List ℕ → Draft
draft_from m ns = record {
  priority = slice_index ns 0;
  mutexes = slice_index ns 1;
  sem_count = slice_index ns 2;
  cells = slice_index ns 3;
  program_count = slice_index ns 4;
  patience = if m.version == 3 then slice_index ns 5 else 1;
  sems = [];
  absent = [];
  programs = [];
}

abbrev pub evict_from : List ℕ → Evict
evict_from ns = record { event = slice_index ns 0; space = record { 0 = slice_index ns 1 }; page = slice_index ns 2 }

abbrev pub turn_from : List ℕ → ProcNo
turn_from ns = record { 0 = slice_index ns 0 }

-- the register of a number
abbrev pub reg_from : ℕ → Reg
reg_from n = slice_index_or (R0 ∷ R1 ∷ R2 ∷ R3 ∷ R4 ∷ R5 ∷ R6 ∷ R7 ∷ []) n R0

-- the operand of a kind and a number
abbrev pub operand_from : OperandKind → ℕ → Operand
operand_from Kinds.Register n = Register (reg_from n)
operand_from Kinds.Value n = Value n
operand_from Kinds.Place n = Place n
operand_from Kinds.Cell n = Cell n
operand_from Kinds.Program n = Program n
operand_from Kinds.Mutex n = Mutex n
operand_from Kinds.Semaphore n = Semaphore n
operand_from Kinds.Length n = Length n
operand_from Kinds.Page n = Page n

abbrev pub operands_from : List OperandKind → List ℕ → List Operand
operands_from (kind ∷ kinds) (n ∷ ns) = operand_from kind n ∷ operands_from kinds ns
operands_from _ _ = []

-- the instruction of an operation and numbers
abbrev pub made_by : List ℕ → Option Operation → Option Instr
made_by ns None = None
made_by ns (Some operation) = instr_of operation (operands_from (form_of operation).operands ns)

abbrev pub is_end : Instr → Bool
is_end End = true
is_end _ = false

-- after an instruction; the last one has to be `end`
abbrev pub step_instr : HeaderView → List SpaceView → Draft → ℕ → List Instr → Option Instr → Result Position ℕ
step_instr m spaces d len instrs None = Err (cause_number BadWord)
step_instr m spaces d len instrs (Some i) =
    if (length instrs + 1 == len) && not (is_end i) then Err (cause_number Missing) else Ok (after_instr m spaces d len (instrs ++ i ∷ []))

-- where a line of this word and these numbers leads
abbrev pub step : Position → List ℕ → List ℕ → Result Position ℕ
step AtVersion word ns = Ok (AtProcessors (slice_index ns 0))
step (AtProcessors version) word ns = Ok (AtFetch version (slice_index ns 0))
step (AtFetch version processors) word ns = Ok (after_fetch version processors (slice_index ns 0))
step (AtSlice version processors fetch) word ns = Ok (AtSpaces version processors fetch (slice_index ns 0))
step (AtSpaces version processors fetch slice) word ns =
    Ok (AtSpace (record { version = version; processors = processors; fetch = fetch; slice = slice; count = slice_index ns 0 }) [])
step (AtSpace m spaces) word ns = Ok (after_sem m spaces (draft_from m ns))
step (AtSem m spaces d) word ns = Ok (after_sem m spaces (with_sem d (slice_index ns 0)))
step (AtAbsent m spaces d) word ns =
    if bytes_eq word (codes "absent") then Ok (AtAbsent m spaces (with_absent d (slice_index ns 0)))
    else Ok (AtInstr m spaces d (slice_index ns 0) [])
step (AtProgram m spaces d) word ns = Ok (AtInstr m spaces d (slice_index ns 0) [])
step (AtInstr m spaces d len instrs) word ns = step_instr m spaces d len instrs (made_by ns (operation_of word))
step (AtEvict m spaces evictions) word ns =
    if bytes_eq word (codes "evict") then Ok (AtEvict m spaces (evictions ++ evict_from ns ∷ []))
    else (if bytes_eq word (codes "turn") then Ok (AtTurn m spaces evictions (turn_from ns ∷ []))
    else Ok (Closed (workload m spaces evictions [])))
step (AtTurn m spaces evictions turns) word ns =
    if bytes_eq word (codes "turn") then Ok (AtTurn m spaces evictions (turns ++ turn_from ns ∷ []))
    else Ok (Closed (workload m spaces evictions turns))
step (Closed w) word ns = Err (cause_number BadWord)

-- the fields after a first word
abbrev pub fields_of : ℕ → Position → List ℕ → List Field
fields_of versions p word = fields_by versions (numbers_at p) word

abbrev pub space_fields : HeaderView → List SpaceView → List Field
space_fields m spaces = fields_by 0 (numbers_at (AtSpace m spaces)) (codes "space")

-- the position after a line, or the first cause that applies to it
abbrev pub next_by : ℕ → Position → List ℕ → List (List ℕ) → Result Position ℕ
next_by versions p word words =
    if is_some (index_of word (expected p)) then (if is_full p word then Err (cause_number TooMany)
    else and_then (line_numbers (fields_of versions p word) (last_numbers p word) words) (step p word)) else Err (cause_number BadWord)

abbrev pub next : ℕ → Position → List (List ℕ) → Result Position ℕ
next versions p [] = Err (cause_number BadWord)
next versions p (word ∷ words) = next_by versions p word words
