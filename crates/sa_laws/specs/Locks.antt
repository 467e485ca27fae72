-- List locks, and the order of ready lists.
use Rattle.std.specs.Prelude.{◌≡◌, ℕ, ◌+◌, ◌%◌, ◌<◌, ◌≤◌, Bool, true, false, ◌&&◌, ◌-◌, if◌then◌else◌, List, [], ◌∷◌, length, filter, Contains, Option, Some, None, slice_get}
use Rattle.std.specs.List.{list_any}
use Rattle.std.specs.Option.{option_map}
use Rattle.sa_base.specs.declared.number.ProcNo.{ProcNo}
use Rattle.sa_base.specs.declared.number.SpaceNo.{SpaceNo}
use Rattle.sa_base.specs.declared.number.ThreadNo.{ThreadNo}
use Rattle.sa_base.specs.declared.number.ActNo.{ActNo}
use Rattle.sa_base.specs.declared.limits.TheConstants.{PACKAGE_PAGE}
use Rattle.sa_base.specs.declared.record.Record.{Record}
use Rattle.sa_base.specs.declared.record.Record.TheVariants.{Run, Cont, Back, Ready, Take, Free}
use Rattle.sa_spaces.specs.Workload.{WorkloadView}
use Rattle.sa_laws.specs.Event.{Event}
use Rattle.sa_laws.specs.State.{space_at}
use Rattle.sa_laws.specs.Life.{Life, Lock, first_lock}
use Rattle.sa_laws.specs.Readings.{Readings, Listed, IsLocked, IsOpen, life_of, life_on, is_resident, carried_by, counts, has_hand, ready_of, is_in}
use Rattle.sa_laws.specs.History.{event_begun, is_step}
use Rattle.sa_laws.specs.Shape.{own_part}
use Rattle.sa_laws.specs.Turns.{is_of_locks}

-- the list k places after that of a processor, round
abbrev pub list_round : WorkloadView → ProcNo → ℕ → ProcNo
list_round w p k = record { 0 = (p.0 + k) % w.processors }

-- of the lists from that of the processor on, round, this one is the first that nobody locks and in which a ready
-- thread is
pub record IsFirstOpen (w : WorkloadView) (r : Readings) (s : SpaceNo) (p l : ProcNo) : Type 0 where
  pub steps : ℕ
  pub within : steps < w.processors
  pub list : l ≡ list_round w p steps
  pub opens : IsOpen r s l
  pub first : (k : ℕ) → k < steps → IsOpen r s (list_round w p k) → ⊥

-- a take for a push is of the processor's own list; one for a pop is on a life without a thread, of the first open list
abbrev pub TakesFor : Bool → WorkloadView → Readings → ProcNo → Life → ProcNo → Type 0
TakesFor true w r p life l = l ≡ p
TakesFor false w r p life l = (carried_by r life ≡ None) × IsFirstOpen w r life.space p l

-- a take comes on a life with no lock and no open cont, of a list that nobody locks, and names the thread that the life
-- carries; it is for a push exactly where the hand is not empty
pub record CanTake (w : WorkloadView) (r : Readings) (p : ProcNo) (life : Life) (s : SpaceNo) (l : ProcNo) (t : Option ThreadNo) : Type 0 where
  pub space : s ≡ life.space
  pub unlocked : IsLocked r s l → ⊥
  pub locks : life.locks ≡ []
  pub cont : life.cont ≡ false
  pub thread : t ≡ carried_by r life
  pub target : TakesFor (has_hand r life) w r p life l

-- a lock can get its ready or run record: it has got none, the package's page is resident, and if it was inherited, a
-- cont is open
pub record CanBeUsed (r : Readings) (life : Life) (lock : Lock) : Type 0 where
  pub unused : lock.used ≡ false
  pub page : is_resident r life.space PACKAGE_PAGE ≡ true
  pub cont : lock.inherited ≡ true → life.cont ≡ true

-- a thread holds the lock of a list
pub record HoldsLock (r : Readings) (s : SpaceNo) (t : ThreadNo) : Type 0 where
  pub act : ActNo
  pub life : Life
  pub is : life_of r act ≡ Some life
  pub space : life.space ≡ s
  pub lock : Lock
  pub among : Contains life.locks lock
  pub thread : lock.thread ≡ Some t

-- a ready names a thread of the life's hand that holds no lock
pub record CanReady (r : Readings) (life : Life) (lock : Lock) (s : SpaceNo) (t : ThreadNo) : Type 0 where
  pub push : lock.for_push ≡ true
  pub used : CanBeUsed r life lock
  pub space : s ≡ life.space
  pub hand : Contains life.hand t
  pub counts : counts (space_at r.state s) t ≡ true
  pub holds : HoldsLock r s t → ⊥

pub record CanRun (r : Readings) (life : Life) (lock : Lock) (s : SpaceNo) : Type 0 where
  pub pop : lock.for_push ≡ false
  pub used : CanBeUsed r life lock
  pub space : s ≡ life.space

-- a free names the first lock and its thread, after its ready or run, and where the lock was inherited, under an open
-- cont
pub record CanFree (life : Life) (lock : Lock) (s : SpaceNo) (l : ProcNo) (t : Option ThreadNo) : Type 0 where
  pub space : s ≡ life.space
  pub list : l ≡ lock.list
  pub thread : t ≡ lock.thread
  pub used : lock.used ≡ true
  pub cont : lock.inherited ≡ true → life.cont ≡ true

-- a cont comes on a life with no open cont whose first lock was inherited, and names that lock's thread
pub record CanCont (life : Life) (lock : Lock) (s : SpaceNo) (t : Option ThreadNo) : Type 0 where
  pub space : s ≡ life.space
  pub cont : life.cont ≡ false
  pub inherited : lock.inherited ≡ true
  pub thread : t ≡ lock.thread

-- what needs the first lock
abbrev pub WithFirst : Option Lock → (Lock → Type 0) → Type 0
WithFirst None P = ⊥
WithFirst (Some lock) P = P lock

-- a step of a life with an open cont whose last own event was a free is its back, and no other back comes
abbrev pub is_back : Record → Bool
is_back (Back s t) = true
is_back _ = false

abbrev pub back_is_due : Life → Bool
back_is_due life = life.cont && life.freed

abbrev pub KeepsLocks : WorkloadView → Readings → ProcNo → Life → Record → Type 0
KeepsLocks w r p life (Take s l t) = CanTake w r p life s l t
KeepsLocks w r p life (Ready s t) = WithFirst (first_lock life) (λ lock. CanReady r life lock s t)
KeepsLocks w r p life (Run s t) = WithFirst (first_lock life) (λ lock. CanRun r life lock s)
KeepsLocks w r p life (Free s l t) = WithFirst (first_lock life) (λ lock. CanFree life lock s l t)
KeepsLocks w r p life (Cont s t) = WithFirst (first_lock life) (λ lock. CanCont life lock s t)
KeepsLocks w r p life (Back s t) = s ≡ life.space
KeepsLocks w r p life _ = Unit {0}

-- List locks: a step keeps to the rules above; a back comes exactly directly after the free of a continued lock; and
-- take, ready, run, free, cont and back are each in an event of its own.
pub record StepKeepsLocks (w : WorkloadView) (r : Readings) (p : ProcNo) (life : Life) (first : Record) : Type 0 where
  pub keeps : KeepsLocks w r p life first
  pub back : is_back first ≡ back_is_due life

abbrev pub KeepsLocksIf : Bool → WorkloadView → Readings → ProcNo → Option Life → Record → Type 0
KeepsLocksIf true w r p (Some life) first = StepKeepsLocks w r p life first
KeepsLocksIf _ w r p _ first = Unit {0}

abbrev pub StandsAlone : Bool → List Record → Type 0
StandsAlone true others = others ≡ []
StandsAlone false others = Unit {0}

abbrev pub KeepsLocksIn : WorkloadView → Readings → ProcNo → List Record → Type 0
KeepsLocksIn w r p [] = Unit {0}
KeepsLocksIn w r p (first ∷ others) =
    KeepsLocksIf (is_step first) w r p (life_on r p) first × StandsAlone (list_any is_of_locks (first ∷ others)) others

pub record LocksAreKept (w : WorkloadView) (r : Readings) (e : Event) : Type 0 where
  pub step : 1 ≤ e.number → KeepsLocksIn w (event_begun w e r) e.proc (own_part e.records)

-- List order: a run takes a ready thread of the list that its life locks first: the newest where the list was taken on
-- its own processor, else the oldest.
abbrev pub threads_in : Readings → SpaceNo → ProcNo → List Listed
threads_in r s l = filter (is_in l) (ready_of r s)

abbrev pub newest : List Listed → Option Listed
newest listed = slice_get listed (length listed - 1)

abbrev pub oldest : List Listed → Option Listed
oldest listed = slice_get listed 0

abbrev pub next_listed : Readings → SpaceNo → Lock → Option Listed
next_listed r s lock =
    if lock.own then newest (threads_in r s lock.list) else oldest (threads_in r s lock.list)

abbrev pub next_thread : Readings → SpaceNo → Lock → Option ThreadNo
next_thread r s lock = option_map (λ (x : Listed). x.thread) (next_listed r s lock)

abbrev pub TakesNext : Readings → Option Life → SpaceNo → ThreadNo → Type 0
TakesNext r None s t = ⊥
TakesNext r (Some life) s t = WithFirst (first_lock life) (λ lock. next_thread r s lock ≡ Some t)

abbrev pub RunsNext : Readings → ProcNo → List Record → Type 0
RunsNext r p (Run s t ∷ others) = TakesNext r (life_on r p) s t
RunsNext r p _ = Unit {0}

pub record OrderIsKept (w : WorkloadView) (r : Readings) (e : Event) : Type 0 where
  pub run : RunsNext r e.proc e.records
