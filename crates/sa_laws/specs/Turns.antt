-- Turns and steps: what an event is, and of which records it consists.
use Rattle.std.specs.Prelude.{◌≡◌, ◌≢◌, ℕ, ◌+◌, ◌≤◌, ◌<◌, ◌⊎◌, nat_lt, Bool, true, false, List, [], ◌∷◌, map, length, Option, Some, None, is_some}
use Rattle.std.specs.List.{list_all}
use Rattle.sa_base.specs.declared.number.ProcNo.{ProcNo}
use Rattle.sa_base.specs.declared.number.SpaceNo.{SpaceNo}
use Rattle.sa_base.specs.declared.number.ActNo.{ActNo}
use Rattle.sa_base.specs.declared.limits.TheConstants.{BULK_RETURN, PACKAGE_PAGE}
use Rattle.sa_base.specs.declared.record.Record.{Record}
use Rattle.sa_base.specs.declared.record.Record.TheVariants.{Ins, Out, Run, Stop, Block, Unblock, Cont, Back, Ready, Take, Free, Up, Told, Move, Want, Aim, Line, Fetch, Fetched, GiveBack, Idle, Spin, Tick}
use Rattle.sa_instr.specs.declared.instr.Instr.{Instr}
use Rattle.sa_instr.specs.declared.instr.Instr.TheVariants.{Out as OutOf, Io as IoOf}
use Rattle.sa_instr.specs.declared.answer.Local.TheVariants.{Went}
use Rattle.sa_instr.specs.Local.{local_answer}
use Rattle.sa_spaces.specs.Workload.{WorkloadView}
use Rattle.sa_devices.specs.declared.kind.IoKind.{IoKind}
use Rattle.sa_devices.specs.declared.kind.IoKind.TheVariants.{Plain, Page, Upcall}
use Rattle.sa_devices.specs.Ios.{Io, due_of}
use Rattle.sa_laws.specs.Event.{Event}
use Rattle.sa_laws.specs.State.{space_def, instr_of}
use Rattle.sa_laws.specs.Life.{Life, Lock, first_lock}
use Rattle.sa_laws.specs.Readings.{Readings, HasNothing, HasList, NoneIsOpen, owner_of, line_of, life_of, life_on, demand_of, load_of, usable, taken_of, running_of, is_resident, carried_by, has_hand}
use Rattle.sa_laws.specs.History.{event_begun}
use Rattle.sa_laws.specs.Shape.{own_part, closing_part}

-- the closing's wants come before its aims and lines, and nothing else is in it
abbrev pub AreRaising : List Record → Type 0
AreRaising [] = Unit {0}
AreRaising (Aim p (Some s) ∷ records) = AreRaising records
AreRaising (Line p ∷ records) = AreRaising records
AreRaising (_ ∷ records) = ⊥

abbrev pub IsClosing : List Record → Type 0
IsClosing (Want s n ∷ records) = IsClosing records
IsClosing records = AreRaising records

-- told records and nothing else
abbrev pub AreTold : List Record → Type 0
AreTold [] = Unit {0}
AreTold (Told n ∷ records) = AreTold records
AreTold (_ ∷ records) = ⊥

-- an up with its told records; or a move to a space and that; or a leave
abbrev pub IsFetchOrNothing : List Record → Type 0
IsFetchOrNothing [] = Unit {0}
IsFetchOrNothing (Fetch s ∷ []) = Unit {0}
IsFetchOrNothing _ = ⊥

abbrev pub IsPassage : List Record → Type 0
IsPassage (Up s a ∷ records) = AreTold records
IsPassage (Move old (Some new) ∷ Up s a ∷ records) = AreTold records
IsPassage (Move old None ∷ Aim p None ∷ records) = IsFetchOrNothing records
IsPassage _ = ⊥

-- an interrupt: a stop, if there is one, and a passage
abbrev pub IsInterrupt : List Record → Type 0
IsInterrupt (Stop s t a ∷ records) = IsPassage records
IsInterrupt records = IsPassage records

-- the completion of an I/O: its page was fetched, or its life's I/O is over
abbrev pub IsOver : IoKind → List Record → Type 0
IsOver (Plain s a) (Unblock of t b ∷ []) = (of ≡ s) × (b ≡ a)
IsOver (Page s a page) (Unblock of t b ∷ []) = (of ≡ s) × (b ≡ a)
IsOver (Upcall s) (Fetched of ∷ []) = of ≡ s
IsOver _ _ = ⊥

-- an `ins` and what belongs to it: with `out` its value, with `io` its block, else nothing
abbrev pub IsOut : List Record → Type 0
IsOut (Out s t value ∷ []) = Unit {0}
IsOut _ = ⊥

abbrev pub IsBlock : List Record → Type 0
IsBlock (Block s t a io ∷ records) = IsPassage records
IsBlock _ = ⊥

abbrev pub IsInsOf : Instr → List Record → Type 0
IsInsOf (OutOf reg) records = IsOut records
IsInsOf (IoOf length) records = IsBlock records
IsInsOf _ records = records ≡ []

-- where a block's life has a lock: its first lock has got no ready or run record yet, and if it was inherited, a cont
-- is open
pub record IsUnused (life : Life) (lock : Lock) : Type 0 where
  pub used : lock.used ≡ false
  pub cont : lock.inherited ≡ true → life.cont ≡ true

abbrev pub CanFault : Readings → Life → Option Lock → Type 0
CanFault r life None = Unit {0}
CanFault r life (Some lock) = (is_resident r life.space PACKAGE_PAGE ≡ false) × IsUnused life lock

-- another life of the space has this list among its locks
pub record AnotherHas (r : Readings) (a : ActNo) (s : SpaceNo) (l : ProcNo) : Type 0 where
  pub other : ActNo
  pub apart : other ≢ a
  pub life : Life
  pub is : life_of r other ≡ Some life
  pub has : HasList life s l

pub record CanSpin (r : Readings) (p : ProcNo) (a : ActNo) (life : Life) (l : ProcNo) : Type 0 where
  pub locks : life.locks ≡ []
  pub cont : life.cont ≡ false
  pub hand : has_hand r life ≡ true
  pub list : l ≡ p
  pub held : AnotherHas r a life.space l

-- a raising hint announces what the load can use, where less was announced
pub record CanRaise (w : WorkloadView) (r : Readings) (life : Life) (n : ℕ) : Type 0 where
  pub nothing : HasNothing r life
  pub below : demand_of r life.space < usable w r life.space
  pub number : n ≡ usable w r life.space

-- a processor has no thread to run, and finds none
pub record FindsNone (r : Readings) (life : Life) : Type 0 where
  pub carries : carried_by r life ≡ None
  pub none : NoneIsOpen r life.space

-- a lowering hint announces one less, where more than the load was announced and the space's patience is over
pub record CanLower (w : WorkloadView) (r : Readings) (life : Life) (n : ℕ) : Type 0 where
  pub finds : FindsNone r life
  pub patient : (space_def w life.space).patience ≤ life.scans
  pub above : load_of r life.space < demand_of r life.space
  pub number : n + 1 ≡ demand_of r life.space

abbrev pub CanHint : Bool → WorkloadView → Readings → Life → ℕ → Type 0
CanHint true w r life n = CanLower w r life n
CanHint false w r life n = CanRaise w r life n

pub record CanIdle (w : WorkloadView) (r : Readings) (life : Life) : Type 0 where
  pub finds : FindsNone r life
  pub no_hint_is_due : (life.scans < (space_def w life.space).patience) ⊎ (demand_of r life.space ≤ load_of r life.space)

-- all that was taken is given back, in the order of taking
pub record CanGiveBack (r : Readings) (life : Life) (records : List Record) : Type 0 where
  pub carries : carried_by r life ≡ None
  pub nothing : HasNothing r life
  pub many : BULK_RETURN ≤ length (taken_of r life.space)
  pub all : records ≡ map GiveBack (taken_of r life.space)

-- records of the operations on ready lists, of which the law of list locks speaks
abbrev pub is_of_locks : Record → Bool
is_of_locks (Take s l t) = true
is_of_locks (Ready s t) = true
is_of_locks (Run s t) = true
is_of_locks (Free s l t) = true
is_of_locks (Cont s t) = true
is_of_locks (Back s t) = true
is_of_locks _ = false

abbrev pub AreOfLocks : List Record → Type 0
AreOfLocks records = list_all is_of_locks records ≡ true

-- the records of a step of life a, given its first one and the others
abbrev pub StepBy : WorkloadView → Readings → ProcNo → ActNo → Life → Record → List Record → Type 0
StepBy w r p a life (Ins s t i) others = IsInsOf (instr_of w r.state s t i) others
StepBy w r p a life (Block s t act io) others = IsPassage others × CanFault r life (first_lock life)
StepBy w r p a life (Spin l) others = (others ≡ []) × CanSpin r p a life l
StepBy w r p a life (Want s n) others =
    (others ≡ []) × (s ≡ life.space) × CanHint (nat_lt n (demand_of r s)) w r life n
StepBy w r p a life Idle others = (others ≡ []) × CanIdle w r life
StepBy w r p a life (GiveBack act) others = CanGiveBack r life (GiveBack act ∷ others)
StepBy w r p a life first others = AreOfLocks (first ∷ others)

abbrev pub StepIn : WorkloadView → Readings → ProcNo → Option ActNo → Option Life → List Record → Type 0
StepIn w r p (Some a) (Some life) (first ∷ others) = StepBy w r p a life first others
StepIn w r p _ _ records = ⊥

abbrev pub IsStep : WorkloadView → Readings → ProcNo → List Record → Type 0
IsStep w r p records = StepIn w r p (running_of r p) (life_on r p) records

-- A user level's table of steps: the records of a step of processor p, given the moment before the event.
abbrev pub Steps : Type 1
Steps = WorkloadView → Readings → ProcNo → List Record → Type 0

-- a turn where no I/O is due: of a processor that nobody owns it is a tick, else a step
abbrev pub IsTickOrStep : Steps → Option SpaceNo → WorkloadView → Readings → ProcNo → List Record → Type 0
IsTickOrStep Step None w r p records = records ≡ Tick ∷ []
IsTickOrStep Step (Some s) w r p records = Step w r p records

-- a local instruction alone, which may come while an I/O is due
abbrev pub IsLocalIns : WorkloadView → Readings → List Record → Type 0
IsLocalIns w r (Ins s t i ∷ []) = local_answer (instr_of w r.state s t i) ≡ Went
IsLocalIns w r _ = ⊥

abbrev pub IsTurnWhileDue : Steps → Option Io → WorkloadView → Readings → ProcNo → List Record → Type 0
IsTurnWhileDue Step None w r p records = IsTickOrStep Step (owner_of r p) w r p records
IsTurnWhileDue Step (Some io) w r p records =
    IsOver io.kind records ⊎ (IsLocalIns w r records × Step w r p records)

abbrev pub IsTurn : Steps → Bool → ℕ → WorkloadView → Readings → ProcNo → List Record → Type 0
IsTurn Step true e w r p records = IsInterrupt records
IsTurn Step false e w r p records = IsTurnWhileDue Step (due_of e r.under_way) w r p records

-- Turns and steps: an event from 1 on is the first that applies of an interrupt, where its processor's line was raised;
-- the completion of the I/O that is due; a tick, where nobody owns the processor; a step of its running life. After it
-- come the closing's records, and no others.
pub record TurnsAreTaken (Step : Steps) (w : WorkloadView) (r : Readings) (e : Event) : Type 0 where
  pub turn : 1 ≤ e.number → IsTurn Step (is_some (line_of r e.proc)) e.number w (event_begun w e r) e.proc (own_part e.records)
  pub closing : 1 ≤ e.number → IsClosing (closing_part e.records)

-- An event is strict where a completion comes first: a local instruction comes only where no I/O is due.
pub record IsStrict (r : Readings) (e : Event) : Type 0 where
  pub strict : (io : Io) → 1 ≤ e.number → due_of e.number r.under_way ≡ Some io → line_of r e.proc ≡ None
      → IsOver io.kind (own_part e.records)
