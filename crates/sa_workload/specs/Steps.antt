-- How one line leads from a position to the next. Private functions of the reader cite this; no public clause does.
use Rattle.std.specs.Prelude.{◌≡◌, ℕ, ◌==◌, if◌then◌else◌, List, [], ◌∷◌, ◌++◌, length, codes, decimal}
use Rattle.sa_base.specs.declared.number.ProcNo.{ProcNo}
use Rattle.sa_instr.specs.declared.instr.Instr.{Instr}
use Rattle.sa_spaces.specs.declared.workload.Evict.{Evict}
use Rattle.sa_spaces.specs.Space.{SpaceView}
use Rattle.sa_spaces.specs.Workload.{WorkloadView}
use Rattle.sa_workload.specs.Text.{instr_line, sem_line, absent_line, evict_line, turn_line}
use Rattle.sa_workload.specs.Bad.{instr_words}
use Rattle.sa_workload.specs.Position.{HeaderView, Draft, Position, AtVersion, AtProcessors, AtFetch, AtSlice, AtSpaces, AtSpace, AtSem, AtAbsent, AtProgram, AtInstr, AtEvict, AtTurn, Closed, version_line, processors_line, fetch_line, spaces_line, draft_line}

abbrev pub slice_line : ℕ → List (List ℕ)
slice_line slice = codes "slice" ∷ decimal slice ∷ []

abbrev pub program_line : ℕ → List (List ℕ)
program_line len = codes "program" ∷ decimal len ∷ []

abbrev pub close_line : List (List ℕ)
close_line = codes "close" ∷ []

-- the workload of what was read
abbrev pub workload : HeaderView → List SpaceView → List Evict → List ProcNo → WorkloadView
workload m spaces evictions turns = record {
  processors = m.processors;
  fetch = m.fetch;
  spaces = spaces;
  evictions = evictions;
  turns = turns;
  slice = m.slice;
}

-- the space of a draft whose programs are whole
abbrev pub space_of_draft : Draft → SpaceView
space_of_draft d = record {
  priority = d.priority;
  mutexes = d.mutexes;
  sems = d.sems;
  cells = d.cells;
  absent = d.absent;
  programs = d.programs;
  patience = d.patience;
}

-- nothing follows the first line of the space yet
abbrev pub IsFresh : Draft → Type 0
IsFresh d = (d.sems ≡ []) × (d.absent ≡ []) × (d.programs ≡ [])

abbrev pub with_sem : Draft → ℕ → Draft
with_sem d n = record d { sems = d.sems ++ n ∷ [] }

abbrev pub with_absent : Draft → ℕ → Draft
with_absent d k = record d { absent = d.absent ++ k ∷ [] }

abbrev pub with_program : Draft → List Instr → Draft
with_program d p = record d { programs = d.programs ++ p ∷ [] }

-- after a fetch line: version 1 has no slice
abbrev pub after_fetch : ℕ → ℕ → ℕ → Position
after_fetch version processors fetch = if version == 1 then AtSpaces version processors fetch 0 else AtSlice version processors fetch

-- after the first line of a space or a semaphore
abbrev pub after_sem : HeaderView → List SpaceView → Draft → Position
after_sem m spaces d = if length d.sems == d.sem_count then AtAbsent m spaces d else AtSem m spaces d

-- after a space
abbrev pub after_spaces : HeaderView → List SpaceView → Position
after_spaces m spaces = if length spaces == m.count then AtEvict m spaces [] else AtSpace m spaces

-- after a program
abbrev pub after_program : HeaderView → List SpaceView → Draft → Position
after_program m spaces d =
    if length d.programs == d.program_count then after_spaces m (spaces ++ space_of_draft d ∷ []) else AtProgram m spaces d

-- after an instruction
abbrev pub after_instr : HeaderView → List SpaceView → Draft → ℕ → List Instr → Position
after_instr m spaces d len instrs =
    if length instrs == len then after_program m spaces (with_program d instrs) else AtInstr m spaces d len instrs

-- the line leads from the first position to the second
pub data Steps : Position → List (List ℕ) → Position → Type 0 where
  step_version : (v : ℕ) → Steps AtVersion (version_line v) (AtProcessors v)
  step_processors : (v n : ℕ) → Steps (AtProcessors v) (processors_line n) (AtFetch v n)
  step_fetch : (v n f : ℕ) → Steps (AtFetch v n) (fetch_line f) (after_fetch v n f)
  step_slice : (v n f s : ℕ) → Steps (AtSlice v n f) (slice_line s) (AtSpaces v n f s)
  step_spaces : (v n f s c : ℕ)
      → Steps (AtSpaces v n f s) (spaces_line c) (AtSpace (record { version = v; processors = n; fetch = f; slice = s; count = c }) [])
  step_space : (m : HeaderView) (spaces : List SpaceView) (d : Draft) → IsFresh d → Steps (AtSpace m spaces) (draft_line m.version d) (after_sem m spaces d)
  step_sem : (m : HeaderView) (spaces : List SpaceView) (d : Draft) (n : ℕ) → Steps (AtSem m spaces d) (sem_line n) (after_sem m spaces (with_sem d n))
  step_absent : (m : HeaderView) (spaces : List SpaceView) (d : Draft) (k : ℕ) → Steps (AtAbsent m spaces d) (absent_line k) (AtAbsent m spaces (with_absent d k))
  step_first_program : (m : HeaderView) (spaces : List SpaceView) (d : Draft) (len : ℕ)
      → Steps (AtAbsent m spaces d) (program_line len) (AtInstr m spaces d len [])
  step_program : (m : HeaderView) (spaces : List SpaceView) (d : Draft) (len : ℕ) → Steps (AtProgram m spaces d) (program_line len) (AtInstr m spaces d len [])
  step_instr : (m : HeaderView) (spaces : List SpaceView) (d : Draft) (len : ℕ) (instrs : List Instr) (i : Instr)
      → Steps (AtInstr m spaces d len instrs) (instr_line i) (after_instr m spaces d len (instrs ++ i ∷ []))
  step_evict : (m : HeaderView) (spaces : List SpaceView) (evictions : List Evict) (e : Evict)
      → Steps (AtEvict m spaces evictions) (evict_line e) (AtEvict m spaces (evictions ++ e ∷ []))
  step_first_turn : (m : HeaderView) (spaces : List SpaceView) (evictions : List Evict) (p : ProcNo)
      → Steps (AtEvict m spaces evictions) (turn_line p) (AtTurn m spaces evictions (p ∷ []))
  step_turn : (m : HeaderView) (spaces : List SpaceView) (evictions : List Evict) (turns : List ProcNo) (p : ProcNo)
      → Steps (AtTurn m spaces evictions turns) (turn_line p) (AtTurn m spaces evictions (turns ++ p ∷ []))
  step_first_close : (m : HeaderView) (spaces : List SpaceView) (evictions : List Evict)
      → Steps (AtEvict m spaces evictions) close_line (Closed (workload m spaces evictions []))
  step_close : (m : HeaderView) (spaces : List SpaceView) (evictions : List Evict) (turns : List ProcNo)
      → Steps (AtTurn m spaces evictions turns) close_line (Closed (workload m spaces evictions turns))

-- the words that a line may begin with at a position
abbrev pub expected : Position → List (List ℕ)
expected AtVersion = codes "workload" ∷ []
expected (AtProcessors v) = codes "processors" ∷ []
expected (AtFetch v n) = codes "fetch" ∷ []
expected (AtSlice v n f) = codes "slice" ∷ []
expected (AtSpaces v n f s) = codes "spaces" ∷ []
expected (AtSpace m spaces) = codes "space" ∷ []
expected (AtSem m spaces d) = codes "sem" ∷ []
expected (AtAbsent m spaces d) = codes "absent" ∷ codes "program" ∷ []
expected (AtProgram m spaces d) = codes "program" ∷ []
expected (AtInstr m spaces d len instrs) = instr_words
expected (AtEvict m spaces evictions) = codes "evict" ∷ codes "turn" ∷ codes "close" ∷ []
expected (AtTurn m spaces evictions turns) = codes "turn" ∷ codes "close" ∷ []
expected (Closed w) = []
