-- List locks, list order and demand where ready threads are in list 0 by their ranks.
use Rattle.std.specs.Prelude.{◌≡◌, ◌≤◌, ◌⊎◌, nat_lt, Bool, true, false, if◌then◌else◌, List, [], ◌∷◌, Option, Some, None}
use Rattle.std.specs.List.{list_any}
use Rattle.std.specs.Option.{option_map}
use Rattle.sa_base.specs.declared.number.ProcNo.{ProcNo}
use Rattle.sa_base.specs.declared.number.SpaceNo.{SpaceNo}
use Rattle.sa_base.specs.declared.number.ThreadNo.{ThreadNo}
use Rattle.sa_base.specs.declared.record.Record.{Record}
use Rattle.sa_base.specs.declared.record.Record.TheVariants.{Run, Take}
use Rattle.sa_spaces.specs.Workload.{WorkloadView}
use Rattle.sa_laws.specs.Event.{Event}
use Rattle.sa_laws.specs.State.{SpaceState, space_at}
use Rattle.sa_laws.specs.Life.{Life}
use Rattle.sa_laws.specs.Readings.{Readings, Listed, IsLocked, life_on, carried_by, has_hand, has_ready, ready_of}
use Rattle.sa_laws.specs.History.{event_begun, is_step}
use Rattle.sa_laws.specs.Shape.{own_part}
use Rattle.sa_laws.specs.Turns.{is_of_locks}
use Rattle.sa_laws.specs.Demand.{is_bound, DemandIsAnnounced}
use Rattle.sa_laws.specs.Locks.{StandsAlone, KeepsLocks, is_back, back_is_due}
use Rattle.sa_ranks.specs.Pairs.{rank_in, has_pair}
use Rattle.sa_ranks.specs.Steps.{the_list}

-- a take comes on a life with no lock and no open cont, of list 0, which nobody locks, and names the thread that the life
-- carries; it is for a push exactly where the hand is not empty, and one for a pop comes on a life without a thread, where
-- the list has one
abbrev pub TakesFor : Bool → Readings → Life → Type 0
TakesFor true r life = Unit {0}
TakesFor false r life = (carried_by r life ≡ None) × (has_ready r life.space the_list ≡ true)

pub record CanTake (r : Readings) (life : Life) (s : SpaceNo) (l : ProcNo) (t : Option ThreadNo) : Type 0 where
  pub space : s ≡ life.space
  pub list : l ≡ the_list
  pub unlocked : IsLocked r s the_list → ⊥
  pub locks : life.locks ≡ []
  pub cont : life.cont ≡ false
  pub thread : t ≡ carried_by r life
  pub target : TakesFor (has_hand r life) r life

-- all else of the law is FastThreads'
abbrev pub KeepsTheLock : WorkloadView → Readings → ProcNo → Life → Record → Type 0
KeepsTheLock w r p life (Take s l t) = CanTake r life s l t
KeepsTheLock w r p life first = KeepsLocks w r p life first

-- the back of a cont comes directly after the free of its lock, and nothing else does; a back where no cont is open is
-- that of a thread that gives way
pub record StepKeepsTheLock (w : WorkloadView) (r : Readings) (p : ProcNo) (life : Life) (first : Record) : Type 0 where
  pub keeps : KeepsTheLock w r p life first
  pub due : back_is_due life ≡ true → is_back first ≡ true
  pub back : is_back first ≡ true → life.cont ≡ true → life.freed ≡ true

abbrev pub KeepsTheLockIf : Bool → WorkloadView → Readings → ProcNo → Option Life → Record → Type 0
KeepsTheLockIf true w r p (Some life) first = StepKeepsTheLock w r p life first
KeepsTheLockIf _ w r p _ first = Unit {0}

abbrev pub KeepsTheLockIn : WorkloadView → Readings → ProcNo → List Record → Type 0
KeepsTheLockIn w r p [] = Unit {0}
KeepsTheLockIn w r p (first ∷ others) =
    KeepsTheLockIf (is_step first) w r p (life_on r p) first × StandsAlone (list_any is_of_locks (first ∷ others)) others

pub record TheLockIsKept (w : WorkloadView) (r : Readings) (e : Event) : Type 0 where
  pub step : 1 ≤ e.number → KeepsTheLockIn w (event_begun w e r) e.proc (own_part e.records)

-- List order: a run takes the ready thread of the greatest rank, and of these the newest by ready records.
abbrev pub greater_of : SpaceState → Listed → Option Listed → Option Listed
greater_of x older None = Some older
greater_of x older (Some newer) = if nat_lt (rank_in x newer.thread) (rank_in x older.thread) then Some older else Some newer

abbrev pub greatest_of : SpaceState → List Listed → Option Listed
greatest_of x [] = None
greatest_of x (listed ∷ newer) = greater_of x listed (greatest_of x newer)

abbrev pub next_by_rank : Readings → SpaceNo → Option ThreadNo
next_by_rank r s = option_map (λ (l : Listed). l.thread) (greatest_of (space_at r.state s) (ready_of r s))

abbrev pub RunsGreatest : Readings → List Record → Type 0
RunsGreatest r (Run s t ∷ others) = next_by_rank r s ≡ Some t
RunsGreatest r _ = Unit {0}

pub record RankIsKept (w : WorkloadView) (r : Readings) (e : Event) : Type 0 where
  pub run : RunsGreatest r e.records

-- A step that only a life makes which is out, or owes nothing, is made by one that is out, or where no pair exists.
pub record IsUnurged (w : WorkloadView) (r : Readings) (life : Life) (first : Record) : Type 0 where
  pub unurged : is_bound r life first ≡ true → (life.inside ≡ false) ⊎ (has_pair w r life.space ≡ false)

abbrev pub IsUnurgedIf : Bool → WorkloadView → Readings → Option Life → Record → Type 0
IsUnurgedIf true w r (Some life) first = IsUnurged w r life first
IsUnurgedIf _ w r _ first = Unit {0}

abbrev pub BeginsUnurged : WorkloadView → Readings → ProcNo → List Record → Type 0
BeginsUnurged w r p [] = Unit {0}
BeginsUnurged w r p (first ∷ others) = IsUnurgedIf (is_step first) w r (life_on r p) first

-- demand is announced, and pairs are served
pub record PairsAreServed (w : WorkloadView) (r : Readings) (e : Event) : Type 0 where
  pub demand_announced : DemandIsAnnounced w r e
  pub step : 1 ≤ e.number → BeginsUnurged w r e.proc e.records
