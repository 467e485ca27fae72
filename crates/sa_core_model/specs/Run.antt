-- A run: the opening, and then turns and commits in any order.
use Rattle.std.specs.Prelude.{◌≡◌, ℕ, ◌+◌, ◌<◌, ◌≤◌, Some, None, Option, List, [], ◌∷◌, replicate, slice_get}
use Rattle.sa_base.specs.declared.number.ProcNo.{ProcNo}
use Rattle.sa_base.specs.declared.number.SpaceNo.{SpaceNo}
use Rattle.sa_base.specs.declared.number.ActNo.{ActNo}
use Rattle.sa_base.specs.declared.limits.TheConstants.{MAX_EVENTS}
use Rattle.sa_spaces.specs.Space.{SpaceView}
use Rattle.sa_spaces.specs.Workload.{WorkloadView}
use Rattle.sa_instr.specs.declared.instr.Instr.{Instr}
use Rattle.sa_abstract.specs.Walk.{AreLocal, program_at}
use Rattle.sa_abstract.specs.declared.answer.SeatState.{SeatState}
use Rattle.sa_abstract.specs.declared.answer.SeatState.TheVariants.{Local, Away}
use Rattle.sa_abstract.specs.Calls.{Calls}
use Rattle.sa_abstract.specs.Setting.{Setting}
use Rattle.sa_assign.specs.Aims.{space_no}
use Rattle.sa_abstract.specs.Keeps.{StaysLocal}
use Rattle.sa_kernel_model.specs.State.{owner_of, line_of}
use Rattle.sa_kernel_model.specs.Opening.{opened}
use Rattle.sa_core_model.specs.Machine.{Machine}
use Rattle.sa_core_model.specs.Turn.{turned, committed}
use Rattle.sa_core_model.specs.End.{local_on, within_slice}

-- the setting of a space, by its number and what the workload declares of it
abbrev pub setting : WorkloadView → ℕ → SpaceView → Setting
setting w s def = record { space = space_no s; def = def; processors = w.processors; fetch = w.fetch }

module _ {U C : Type 0} (f : Calls U C) where
  -- the user levels of spaces from number s on
  abbrev pub started_from : WorkloadView → ℕ → List SpaceView → List U
  started_from w s [] = []
  started_from w s (def ∷ defs) = f.started (setting w s def) ∷ started_from w (s + 1) defs

  -- the machine at the opening, which is event 0
  abbrev pub opening : WorkloadView → Machine U C
  opening w = record {
    workload = w;
    kernel = (opened {C = C} w).state;
    users = started_from w 0 w.spaces;
    contexts = replicate w.processors None;
    event = 0;
    items = (opened {C = C} w).items;
  }

  -- a turn, with some number that is not in use
  pub record IsTurn (m : Machine U C) (p : ProcNo) (after : Machine U C) : Type 0 where
    pub fresh : ActNo
    pub unused : m.kernel.acts fresh.0 ≡ None
    pub is : after ≡ turned f p fresh m

  -- the context that runs on a processor stands at an instruction of its thread, and the next n are local
  pub record CanGo (m : Machine U C) (p : ProcNo) (n : ℕ) : Type 0 where
    pub space : SpaceNo
    pub def : SpaceView
    pub owner : owner_of m.kernel p ≡ Some space
    pub is_def : slice_get m.workload.spaces space.0 ≡ Some def
    pub goes : StaysLocal (setting m.workload space.0 def) n (local_on f m p)

-- the programs of a space of a workload
abbrev pub programs_in : Option SpaceView → List (List Instr)
programs_in None = []
programs_in (Some def) = def.programs

-- the context stands at an instruction of its thread, and the next n are local
abbrev pub AreNextLocal : WorkloadView → ℕ → SeatState → Type 0
AreNextLocal w n (Local space thread program pc regs) =
    AreLocal (program_at (programs_in (slice_get w.spaces space.0)) program) n (record { pc = pc; regs = regs })
AreNextLocal w n Away = ⊥

module _ {U C : Type 0} (f : Calls U C) where
  -- a turn of a processor can be made
  pub record CanTurn (m : Machine U C) (p : ProcNo) : Type 0 where
    pub within : p.0 < m.workload.processors
    pub event : m.event < MAX_EVENTS

  -- n local instructions can be committed: the line is low, and no slice ends before the last of them
  pub record CanCommit (m : Machine U C) (p : ProcNo) (n : ℕ) : Type 0 where
    pub some : 1 ≤ n
    pub event : m.event + n ≤ MAX_EVENTS
    pub low : line_of m.kernel p ≡ None
    pub slice : within_slice n m ≡ n
    pub go : AreNextLocal m.workload n (local_on f m p)

-- what is done to a machine: a turn of a processor, or some number of local instructions of the context that runs there
pub data Move : Type 0 where
  turn : ProcNo → Move
  commit : ProcNo → ℕ → Move

module _ {U C : Type 0} (f : Calls U C) where
  abbrev pub IsMove : Machine U C → Move → Machine U C → Type 0
  IsMove m (turn p) after = CanTurn f m p × IsTurn f m p after
  IsMove m (commit p n) after = CanCommit f m p n × (after ≡ committed f p n m)

  -- the moves, in order
  abbrev pub IsRun : Machine U C → List Move → Machine U C → Type 0
  IsRun m [] after = after ≡ m
  IsRun m (move ∷ moves) after = (between : Machine U C) × IsMove m move between × IsRun between moves after
