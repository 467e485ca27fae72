-- What the machine's lock keeps.
use Rattle.std.specs.Prelude.{◌≡◌, ℕ, ◌<◌, ◌≤◌, ◌⊎◌, Option, None, List, [], Contains, length}
use Rattle.atomic_table.specs.Seated.{TableId}
use Rattle.sa_base.specs.declared.limits.TheConstants.{MAX_EVENTS}
use Rattle.sa_spaces.specs.Workload.{WorkloadView, IsWorkload}
use Rattle.sa_abstract.specs.Calls.{Calls}
use Rattle.sa_assign.specs.Reaim.{proc_no, line_at}
use Rattle.sa_kernel_model.specs.State.{line_of}
use Rattle.sa_core_model.specs.Machine.{Machine}
use Rattle.sa_core_model.specs.End.{end_of}
use Rattle.sa_core_model.specs.Run.{Move}
use Rattle.sa_core.specs.View.{CoreView, machine}
use Rattle.sa_lines.specs.declared.view.Lane.{Lane}
use Rattle.sa_lines.specs.Words.{lane_at}
use Rattle.sa_lines.specs.Seen.{KeeperSeen, line_value}
use Rattle.sa_seat.specs.Chain.{IsChain, turns_of, HasLine}

-- what a contract sees behind the lock
pub record HeldView (U C : Type 0) : Type 0 where
  pub core : CoreView U C
  pub keeper : KeeperSeen

-- the names of no workload and of no table
abbrev pub no_workload : WorkloadView
no_workload = record { processors = 0; fetch = 0; spaces = []; evictions = []; turns = []; slice = 0 }

abbrev pub no_table : TableId
no_table = record { words = 0; slots = 0; views_name = 0; atom = 0; block = 0; offset = 0; slot_names = [] }

module _ {U C : Type 0} (f : Calls U C) (budget : ℕ) where
  -- what the keeper knows of a processor is true of the machine to which the moves led
  pub record IsLane (moves : List Move) (m : Machine U C) (p : ℕ) (lane : Lane) : Type 0 where
    -- the count is the number of the processor's events
    pub count : lane.account.count ≡ turns_of p moves
    -- the line word says how the line is
    pub line : lane.line ≡ line_value (line_of m.kernel (proc_no p))
    -- each event at which the line was raised has its record
    pub raised : (e : ℕ) → Contains lane.raised e → HasLine m.items e p
    pub end : (lane.account.end ≡ None) ⊎ (lane.account.end ≡ end_of f budget m)

  -- the keeper's lanes are such, and these are the lines that it stored last
  pub record AreLanes (w : WorkloadView) (moves : List Move) (m : Machine U C) (lines : List (Option ℕ)) (lanes : List Lane) : Type 0 where
    pub size : length lanes ≡ w.processors
    pub each : (p : ℕ) → p < w.processors → IsLane moves m p (lane_at lanes p)
    pub stored : (p : ℕ) → p < w.processors → line_at lines p ≡ line_of m.kernel (proc_no p)

  -- whenever the lock is free, the core is what a chain of turns and commits makes of the workload's opening
  pub record IsLocked (w : WorkloadView) (table : TableId) (core : CoreView U C) (lines : List (Option ℕ)) (keeper : KeeperSeen) : Type 0 where
    pub workload : IsWorkload w
    pub few : budget ≤ MAX_EVENTS
    pub budget_is : core.budget ≡ budget
    pub table_is : keeper.table ≡ table
    pub within : (machine core).event ≤ budget
    pub moves : List Move
    pub chain : IsChain f budget w moves (machine core)
    pub kept : AreLanes w moves (machine core) lines keeper.lanes
