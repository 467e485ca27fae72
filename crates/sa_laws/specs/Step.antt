-- Which records the abstract machine can do: where a record's needs are not met, it has no step.
use Rattle.std.specs.Prelude.{◌≡◌, ℕ, ◌<◌, ◌⊎◌, Bool, true, false, List, [], ◌∷◌, Option, Some, None, is_some}
use Rattle.std.specs.List.{list_any}
use Rattle.sa_base.specs.declared.number.ProcNo.{ProcNo}
use Rattle.sa_base.specs.declared.number.SpaceNo.{SpaceNo}
use Rattle.sa_base.specs.declared.number.ThreadNo.{ThreadNo}
use Rattle.sa_base.specs.declared.number.ActNo.{ActNo}
use Rattle.sa_base.specs.declared.limits.TheConstants.{PACKAGE_PAGE}
use Rattle.sa_base.specs.declared.record.Record.{Record}
use Rattle.sa_base.specs.declared.record.Record.TheVariants.{Ins, Out, Run, Stop, Block, Unblock, Cont, Back, Ready, Move}
use Rattle.sa_instr.specs.declared.instr.Instr.{Instr}
use Rattle.sa_instr.specs.declared.instr.Instr.TheVariants.{Out as OutOf, Touch}
use Rattle.sa_instr.specs.Regs.{reg_value}
use Rattle.sa_spaces.specs.Workload.{WorkloadView}
use Rattle.sa_laws.specs.declared.place.Place.{Place}
use Rattle.sa_laws.specs.declared.place.Place.TheVariants as place
use Rattle.sa_laws.specs.Event.{Event}
use Rattle.sa_laws.specs.State.{State, space_at, thread_at, instr_of, next_instr, program_len, owner_at, runner_on, runner_of, is_due}
use Rattle.sa_laws.specs.Machine.{changed}
use Rattle.sa_laws.specs.Life.{Life}
use Rattle.sa_laws.specs.Readings.{Readings, is_resident, life_of}
use Rattle.sa_laws.specs.Record.{after_record, length_behind, locks_one, is_io_of}
use Rattle.sa_laws.specs.History.{event_begun}

-- the thread t? is the one that runs on p, or none is named and none runs there
abbrev pub IsRunner : State → ProcNo → SpaceNo → Option ThreadNo → Type 0
IsRunner a p s t = runner_on a p ≡ runner_of s t

abbrev pub NobodyRuns : State → ProcNo → Type 0
NobodyRuns a p = runner_on a p ≡ None

-- the thread, if there is one, is in this place
abbrev pub StandsIn : Place → State → SpaceNo → Option ThreadNo → Type 0
StandsIn place a s None = Unit {0}
StandsIn place a s (Some t) = (thread_at a s t).place ≡ place

-- the page of a `touch` is resident
abbrev pub IsTouched : Readings → SpaceNo → Instr → Type 0
IsTouched r s (Touch page) = is_resident r s page ≡ true
IsTouched r s _ = Unit {0}

-- the page of a `touch` is absent
abbrev pub IsMissed : Readings → SpaceNo → Instr → Type 0
IsMissed r s (Touch page) = is_resident r s page ≡ false
IsMissed r s _ = ⊥

-- the value is that of the register of an `out`
abbrev pub IsValueOf : List ℕ → Instr → ℕ → Type 0
IsValueOf regs (OutOf reg) value = value ≡ reg_value regs reg
IsValueOf regs _ value = ⊥

-- the record directly before is that of an `out` of this thread with this value
abbrev pub IsBehindOut : WorkloadView → State → SpaceNo → ThreadNo → ℕ → Option Record → Type 0
IsBehindOut w a s t value (Some (Ins of u i)) =
    (of ≡ s) × (u ≡ t) × IsValueOf (thread_at a s t).regs (instr_of w a s t i) value
IsBehindOut w a s t value _ = ⊥

-- an instruction runs on p: its thread runs there and stands at it, and its page is resident
pub record CanIns (w : WorkloadView) (p : ProcNo) (r : Readings) (s : SpaceNo) (t : ThreadNo) (i : ℕ) : Type 0 where
  pub owned : owner_at r.state p ≡ Some s
  pub runs : (thread_at r.state s t).place ≡ place.Running p
  pub pc : (thread_at r.state s t).pc ≡ i
  pub within : i < program_len w r.state s t
  pub page : IsTouched r s (instr_of w r.state s t i)

-- a thread touches an absent page
abbrev pub IsFaulting : WorkloadView → Readings → SpaceNo → Option ThreadNo → Type 0
IsFaulting w r s None = ⊥
IsFaulting w r s (Some t) = IsMissed r s (next_instr w r.state s t)

-- what a block is for: it comes directly after an `io` of its thread, or its thread touches an absent page, or its
-- life has a lock and the package's page is absent
abbrev pub HasCause : WorkloadView → Readings → SpaceNo → Option ThreadNo → ActNo → Type 0
HasCause w r s t a =
    (is_some (length_behind w r s t r.last) ≡ true)
    ⊎ (IsFaulting w r s t ⊎ ((locks_one (life_of r a) ≡ true) × (is_resident r s PACKAGE_PAGE ≡ false)))

pub record CanBlock (w : WorkloadView) (p : ProcNo) (r : Readings) (s : SpaceNo) (t : Option ThreadNo) (a : ActNo) : Type 0 where
  pub owned : owner_at r.state p ≡ Some s
  pub runs : IsRunner r.state p s t
  pub cause : HasCause w r s t a

-- an I/O of the life is under way
abbrev pub has_io : Readings → ActNo → Bool
has_io r a = list_any (is_io_of a) r.under_way

-- the life of an unblock is blocked, and the unblock names the thread of its block
pub record CanUnblock (r : Readings) (s : SpaceNo) (t : Option ThreadNo) (a : ActNo) : Type 0 where
  pub life : Life
  pub is : life_of r a ≡ Some life
  pub space : life.space ≡ s
  pub thread : life.thread ≡ t
  pub io : has_io r a ≡ true
  pub blocked : StandsIn place.Blocked r.state s t

-- a thread can be made ready: it is carried, or due
abbrev pub CanBeReady : State → SpaceNo → ThreadNo → Type 0
CanBeReady a s t = ((thread_at a s t).place ≡ place.Carried) ⊎ (is_due (space_at a s) t ≡ true)

-- the needs of a record of processor p
abbrev pub Needs : WorkloadView → ProcNo → Readings → Record → Type 0
Needs w p r (Ins s t i) = CanIns w p r s t i
Needs w p r (Out s t value) = (owner_at r.state p ≡ Some s) × IsBehindOut w r.state s t value r.last
Needs w p r (Stop s t a) = (owner_at r.state p ≡ Some s) × IsRunner r.state p s t
Needs w p r (Block s t a io) = CanBlock w p r s t a
Needs w p r (Unblock s t a) = CanUnblock r s t a
Needs w p r (Cont s t) = (owner_at r.state p ≡ Some s) × NobodyRuns r.state p × StandsIn place.Carried r.state s t
Needs w p r (Back s t) = (owner_at r.state p ≡ Some s) × IsRunner r.state p s t
Needs w p r (Run s t) = (owner_at r.state p ≡ Some s) × NobodyRuns r.state p × ((thread_at r.state s t).place ≡ place.Ready)
Needs w p r (Ready s t) = (owner_at r.state p ≡ Some s) × CanBeReady r.state s t
Needs w p r (Move old new) = (owner_at r.state p ≡ old) × NobodyRuns r.state p
Needs w p r _ = Unit {0}

-- the case of the abstract machine that leads from one state to another by a record
pub record Step (w : WorkloadView) (p : ProcNo) (r : Readings) (x : Record) (new : State) : Type 0 where
  pub needs : Needs w p r x
  pub changes : new ≡ changed w p r.state x

-- Each record is a step of the abstract machine.
abbrev pub AreSteps : WorkloadView → ℕ → ProcNo → Readings → List Record → Type 0
AreSteps w e p r [] = Unit {0}
AreSteps w e p r (x ∷ xs) = Needs w p r x × AreSteps w e p (after_record w e p r x) xs

pub record IsStepwise (w : WorkloadView) (r : Readings) (e : Event) : Type 0 where
  pub steps : AreSteps w e.number e.proc (event_begun w e r) e.records
