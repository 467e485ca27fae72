-- Where a reader is after some lines: what they say so far. Private functions of the reader cite this; no public clause does.
use Rattle.std.specs.Prelude.{◌≡◌, ◌≢◌, ◌⊎◌, ℕ, ◌+◌, ◌<◌, ◌≤◌, ◌==◌, ⊤, if◌then◌else◌, List, [], ◌∷◌, ◌++◌, length, map, All, Option, Some, None, codes, decimal}
use Rattle.std.specs.List.{flat_map, AllAdjacentBelow}
use Rattle.std.specs.List.Sorted.{IsStrictlyIncreasing}
use Rattle.sa_base.specs.declared.limits.TheConstants.{MAX_PROCESSORS, MAX_SPACES}
use Rattle.sa_instr.specs.declared.limits.TheConstants.{LAST_PAGE, MAX_CELLS, MAX_EVICTIONS, MAX_FETCH, MAX_INSTRUCTIONS, MAX_MUTEXES, MAX_PATIENCE, MAX_PRIORITY, MAX_PROGRAMS, MAX_SEMAPHORES, MAX_SLICE, MAX_START, MAX_TURNS}
use Rattle.sa_base.specs.declared.number.ProcNo.{ProcNo}
use Rattle.sa_instr.specs.declared.instr.Instr.{Instr}
use Rattle.sa_spaces.specs.declared.workload.Evict.{Evict}
use Rattle.sa_instr.specs.Instr.{IsInRange, JumpsBelow, NamesDeclared}
use Rattle.sa_instr.specs.Program.{IsProgram}
use Rattle.sa_spaces.specs.Space.{SpaceView, IsSpace}
use Rattle.sa_spaces.specs.Workload.{WorkloadView, IsWorkload, IsEviction, IsBefore}
use Rattle.sa_workload.specs.Text.{instr_line, program_lines, sem_line, absent_line, space_lines, evict_line, turn_line, slice_lines, version_of, workload_lines}

-- what the lines before the spaces say; `count` is how many spaces there are
pub record HeaderView : Type 0 where
  pub version : ℕ
  pub processors : ℕ
  pub fetch : ℕ
  pub slice : ℕ
  pub count : ℕ

-- what the lines of a space say so far; the counts are how many semaphores and programs there are
pub record Draft : Type 0 where
  pub priority : ℕ
  pub mutexes : ℕ
  pub sem_count : ℕ
  pub cells : ℕ
  pub program_count : ℕ
  pub patience : ℕ
  pub sems : List ℕ
  pub absent : List ℕ
  pub programs : List (List Instr)

-- which line comes next, and what the lines before it say
pub data Position : Type 0 where
  AtVersion : Position
  AtProcessors : (version : ℕ) → Position
  AtFetch : (version processors : ℕ) → Position
  AtSlice : (version processors fetch : ℕ) → Position
  AtSpaces : (version processors fetch slice : ℕ) → Position
  AtSpace : HeaderView → List SpaceView → Position
  AtSem : HeaderView → List SpaceView → Draft → Position
  AtAbsent : HeaderView → List SpaceView → Draft → Position
  AtProgram : HeaderView → List SpaceView → Draft → Position
  AtInstr : HeaderView → List SpaceView → Draft → (len : ℕ) → List Instr → Position
  AtEvict : HeaderView → List SpaceView → List Evict → Position
  AtTurn : HeaderView → List SpaceView → List Evict → List ProcNo → Position
  Closed : WorkloadView → Position

-- the workload, if no line is to come
abbrev pub closed : Position → Option WorkloadView
closed (Closed w) = Some w
closed _ = None

-- the lines that a reader has read
abbrev pub version_line : ℕ → List (List ℕ)
version_line version = codes "workload" ∷ decimal version ∷ []

abbrev pub processors_line : ℕ → List (List ℕ)
processors_line processors = codes "processors" ∷ decimal processors ∷ []

abbrev pub fetch_line : ℕ → List (List ℕ)
fetch_line fetch = codes "fetch" ∷ decimal fetch ∷ []

abbrev pub spaces_line : ℕ → List (List ℕ)
spaces_line count = codes "spaces" ∷ decimal count ∷ []

abbrev pub shown_machine : HeaderView → List (List (List ℕ))
shown_machine m =
    version_line m.version ∷ processors_line m.processors ∷ fetch_line m.fetch ∷ (slice_lines m.version m.slice ++ spaces_line m.count ∷ [])

abbrev pub draft_line : ℕ → Draft → List (List ℕ)
draft_line version d =
    codes "space" ∷ decimal d.priority ∷ decimal d.mutexes ∷ decimal d.sem_count ∷ decimal d.cells ∷ decimal d.program_count
    ∷ (if version == 3 then decimal d.patience ∷ [] else [])

abbrev pub shown_draft : ℕ → Draft → List (List (List ℕ))
shown_draft version d =
    draft_line version d ∷ (map sem_line d.sems ++ (map absent_line d.absent ++ flat_map program_lines d.programs))

abbrev pub shown_spaces : HeaderView → List SpaceView → List (List (List ℕ))
shown_spaces m spaces = shown_machine m ++ flat_map (space_lines m.version) spaces

abbrev pub shown : Position → List (List (List ℕ))
shown AtVersion = []
shown (AtProcessors version) = version_line version ∷ []
shown (AtFetch version processors) = version_line version ∷ processors_line processors ∷ []
shown (AtSlice version processors fetch) = version_line version ∷ processors_line processors ∷ fetch_line fetch ∷ []
shown (AtSpaces version processors fetch slice) =
    version_line version ∷ processors_line processors ∷ fetch_line fetch ∷ slice_lines version slice
shown (AtSpace m spaces) = shown_spaces m spaces
shown (AtSem m spaces d) = shown_spaces m spaces ++ shown_draft m.version d
shown (AtAbsent m spaces d) = shown_spaces m spaces ++ shown_draft m.version d
shown (AtProgram m spaces d) = shown_spaces m spaces ++ shown_draft m.version d
shown (AtInstr m spaces d len instrs) =
    shown_spaces m spaces ++ (shown_draft m.version d ++ ((codes "program" ∷ decimal len ∷ []) ∷ map instr_line instrs))
shown (AtEvict m spaces evictions) = shown_spaces m spaces ++ map evict_line evictions
shown (AtTurn m spaces evictions turns) = shown_spaces m spaces ++ (map evict_line evictions ++ map turn_line turns)
shown (Closed w) = workload_lines w

-- the version is one that is read, and the slice one that it can have
abbrev pub CanSlice : ℕ → ℕ → Type 0
CanSlice version slice =
    ((version ≡ 1) × (slice ≡ 0)) ⊎ (((version ≡ 2) × (1 ≤ slice) × (slice ≤ MAX_SLICE)) ⊎ ((version ≡ 3) × (slice ≤ MAX_SLICE)))

pub record IsHeader (versions : ℕ) (m : HeaderView) : Type 0 where
  pub version : m.version ≤ versions
  pub processors : (1 ≤ m.processors) × (m.processors ≤ MAX_PROCESSORS)
  pub fetch : (1 ≤ m.fetch) × (m.fetch ≤ MAX_FETCH)
  pub slice : CanSlice m.version m.slice
  pub count : (1 ≤ m.count) × (m.count ≤ MAX_SPACES)

-- all spaces so far are spaces; before version 3 their patience is 1, and in it not all of them have patience 1 where they are all
pub record AreSpaces (m : HeaderView) (spaces : List SpaceView) : Type 0 where
  pub few : length spaces ≤ m.count
  pub each : All IsSpace spaces
  pub patient : m.version ≢ 3 → All (λ (s : SpaceView). s.patience ≡ 1) spaces
  pub own : m.version ≡ 3 → length spaces ≡ m.count → ¬ All (λ (s : SpaceView). s.patience ≡ 1) spaces

-- the first line of the space, and the lines that came after it
pub record IsDraft (m : HeaderView) (spaces : List SpaceView) (d : Draft) : Type 0 where
  pub room : length spaces < m.count
  pub priority : d.priority ≤ MAX_PRIORITY
  pub mutexes : d.mutexes ≤ MAX_MUTEXES
  pub sem_count : d.sem_count ≤ MAX_SEMAPHORES
  pub cells : d.cells ≤ MAX_CELLS
  pub program_count : (1 ≤ d.program_count) × (d.program_count ≤ MAX_PROGRAMS)
  pub patience : (1 ≤ d.patience) × (d.patience ≤ MAX_PATIENCE)
  pub patient : m.version ≢ 3 → d.patience ≡ 1
  pub own : m.version ≡ 3 → length spaces + 1 ≡ m.count → All (λ (s : SpaceView). s.patience ≡ 1) spaces → d.patience ≢ 1
  pub sems : length d.sems ≤ d.sem_count
  pub starts : All (λ start. start ≤ MAX_START) d.sems
  pub pages : All (λ page. page ≤ LAST_PAGE) d.absent
  pub absent_rise : IsStrictlyIncreasing d.absent
  pub programs : length d.programs ≤ d.program_count
  pub each : All IsProgram d.programs
  pub names : All (All (NamesDeclared d.mutexes d.sem_count d.cells d.program_count)) d.programs

-- the program so far: at least one instruction is to come
pub record IsBegun (d : Draft) (len : ℕ) (instrs : List Instr) : Type 0 where
  pub short : (1 ≤ len) × (len ≤ MAX_INSTRUCTIONS)
  pub room : length instrs < len
  pub ranges : All IsInRange instrs
  pub jumps : All (JumpsBelow len) instrs
  pub names : All (NamesDeclared d.mutexes d.sem_count d.cells d.program_count) instrs

pub record AreEvictions (m : HeaderView) (evictions : List Evict) : Type 0 where
  pub few : length evictions ≤ MAX_EVICTIONS
  pub each : All (IsEviction m.count) evictions
  pub rise : AllAdjacentBelow IsBefore evictions (length evictions)

pub record AreTurns (m : HeaderView) (turns : List ProcNo) : Type 0 where
  pub few : length turns ≤ MAX_TURNS
  pub each : All (λ (p : ProcNo). p.0 < m.processors) turns

-- what a reader that has refused no line keeps, where texts of that many versions are read
abbrev pub IsReached : ℕ → Position → Type 0
IsReached versions AtVersion = ⊤
IsReached versions (AtProcessors version) = (1 ≤ version) × (version ≤ versions)
IsReached versions (AtFetch version processors) = (1 ≤ version) × (version ≤ versions) × (1 ≤ processors) × (processors ≤ MAX_PROCESSORS)
IsReached versions (AtSlice version processors fetch) =
    (2 ≤ version) × (version ≤ versions) × (1 ≤ processors) × (processors ≤ MAX_PROCESSORS) × (1 ≤ fetch) × (fetch ≤ MAX_FETCH)
IsReached versions (AtSpaces version processors fetch slice) =
    (version ≤ versions) × (1 ≤ processors) × (processors ≤ MAX_PROCESSORS) × (1 ≤ fetch) × (fetch ≤ MAX_FETCH) × CanSlice version slice
IsReached versions (AtSpace m spaces) = IsHeader versions m × AreSpaces m spaces × (length spaces < m.count)
IsReached versions (AtSem m spaces d) =
    IsHeader versions m × AreSpaces m spaces × IsDraft m spaces d × (length d.sems < d.sem_count) × (d.absent ≡ []) × (d.programs ≡ [])
IsReached versions (AtAbsent m spaces d) =
    IsHeader versions m × AreSpaces m spaces × IsDraft m spaces d × (length d.sems ≡ d.sem_count) × (d.programs ≡ [])
IsReached versions (AtProgram m spaces d) =
    IsHeader versions m × AreSpaces m spaces × IsDraft m spaces d × (length d.sems ≡ d.sem_count) × (1 ≤ length d.programs)
    × (length d.programs < d.program_count)
IsReached versions (AtInstr m spaces d len instrs) =
    IsHeader versions m × AreSpaces m spaces × IsDraft m spaces d × (length d.sems ≡ d.sem_count)
    × (length d.programs < d.program_count) × IsBegun d len instrs
IsReached versions (AtEvict m spaces evictions) =
    IsHeader versions m × AreSpaces m spaces × (length spaces ≡ m.count) × AreEvictions m evictions
IsReached versions (AtTurn m spaces evictions turns) =
    IsHeader versions m × AreSpaces m spaces × (length spaces ≡ m.count) × AreEvictions m evictions × AreTurns m turns × (1 ≤ length turns)
IsReached versions (Closed w) = IsWorkload w × (version_of w ≤ versions)
