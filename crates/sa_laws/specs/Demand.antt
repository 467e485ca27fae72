-- Demand is announced: the law that ties what a space does to what it announced.
use Rattle.std.specs.Prelude.{◌≡◌, ◌≤◌, ◌⊎◌, nat_lt, Bool, true, false, not, ◌||◌, List, [], ◌∷◌, Option, Some, None, is_some}
use Rattle.sa_base.specs.declared.number.ProcNo.{ProcNo}
use Rattle.sa_base.specs.declared.record.Record.{Record}
use Rattle.sa_base.specs.declared.record.Record.TheVariants.{Ins, Block, Take, Want, Idle}
use Rattle.sa_spaces.specs.Workload.{WorkloadView}
use Rattle.sa_laws.specs.Event.{Event}
use Rattle.sa_laws.specs.Life.{Life, has_lock}
use Rattle.sa_laws.specs.Readings.{Readings, HasNothing, life_on, demand_of, usable, carried_by, has_hand, many_taken}
use Rattle.sa_laws.specs.History.{is_step}

-- a step that only a life makes which is out, or owes nothing: an instruction, a block for the page of a `touch`, an
-- idle record, a lowering hint, and a take for a pop
abbrev pub is_bound : Readings → Life → Record → Bool
is_bound r life (Ins s t i) = true
is_bound r life (Block s t a io) = not (has_lock life)
is_bound r life Idle = true
is_bound r life (Want s n) = nat_lt n (demand_of r s)
is_bound r life (Take s l t) = not (has_hand r life)
is_bound r life _ = false

-- the life owes nothing: no lock, no open cont, an empty hand; its space announced what its load can use; and it
-- carries a thread, or few lives of its space are taken
pub record OwesNothing (w : WorkloadView) (r : Readings) (life : Life) : Type 0 where
  pub nothing : HasNothing r life
  pub announced : usable w r life.space ≤ demand_of r life.space
  pub given : (is_some (carried_by r life) || not (many_taken r life.space)) ≡ true

pub record IsFree (w : WorkloadView) (r : Readings) (life : Life) (first : Record) : Type 0 where
  pub free : is_bound r life first ≡ true → (life.inside ≡ false) ⊎ OwesNothing w r life

-- Demand is announced: a step is made by a running life; and the steps above only by one that is out or owes nothing
-- directly before the event.
abbrev pub StepIsFree : WorkloadView → Readings → Option Life → Record → Type 0
StepIsFree w r None first = ⊥
StepIsFree w r (Some life) first = IsFree w r life first

abbrev pub StepIsFreeIf : Bool → WorkloadView → Readings → Option Life → Record → Type 0
StepIsFreeIf true w r life first = StepIsFree w r life first
StepIsFreeIf false w r life first = Unit {0}

abbrev pub BeginsFreely : WorkloadView → Readings → ProcNo → List Record → Type 0
BeginsFreely w r p [] = Unit {0}
BeginsFreely w r p (first ∷ others) = StepIsFreeIf (is_step first) w r (life_on r p) first

pub record DemandIsAnnounced (w : WorkloadView) (r : Readings) (e : Event) : Type 0 where
  pub step : 1 ≤ e.number → BeginsFreely w r e.proc e.records
