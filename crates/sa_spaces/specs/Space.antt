-- What a space is: how many of each thing it declares, its absent pages and its programs.
use Rattle.std.specs.Prelude.{ℕ, ◌≤◌, List, length, All}
use Rattle.std.specs.List.Sorted.{IsStrictlyIncreasing}
use Rattle.sa_instr.specs.declared.limits.TheConstants.{LAST_PAGE, MAX_CELLS, MAX_MUTEXES, MAX_PATIENCE, MAX_PRIORITY, MAX_PROGRAMS, MAX_SEMAPHORES, MAX_START}
use Rattle.sa_instr.specs.declared.instr.Instr.{Instr}
use Rattle.sa_instr.specs.Instr.{NamesDeclared}
use Rattle.sa_instr.specs.Program.{IsProgram}

-- what a contract sees of a space
pub record SpaceView : Type 0 where
  -- of the spaces, those of the greatest priority come first
  pub priority : ℕ
  pub mutexes : ℕ
  -- the count that each semaphore starts with
  pub sems : List ℕ
  pub cells : ℕ
  -- the pages that are absent at the opening
  pub absent : List ℕ
  pub programs : List (List Instr)
  -- after how many looks at the ready lists an idle processor is offered to the kernel
  pub patience : ℕ

-- a space keeps to its ranges, its absent pages rise, and its programs name only what it declares
pub record IsSpace (s : SpaceView) : Type 0 where
  pub priority : s.priority ≤ MAX_PRIORITY
  pub mutexes : s.mutexes ≤ MAX_MUTEXES
  pub sems : length s.sems ≤ MAX_SEMAPHORES
  pub starts : All (λ start. start ≤ MAX_START) s.sems
  pub cells : s.cells ≤ MAX_CELLS
  pub pages : All (λ page. page ≤ LAST_PAGE) s.absent
  pub absent_rise : IsStrictlyIncreasing s.absent
  pub some_program : 1 ≤ length s.programs
  pub few_programs : length s.programs ≤ MAX_PROGRAMS
  pub programs : All IsProgram s.programs
  pub names : All (All (NamesDeclared s.mutexes (length s.sems) s.cells (length s.programs))) s.programs
  pub patient : 1 ≤ s.patience
  pub patience : s.patience ≤ MAX_PATIENCE
