-- A session over histories: what a reader of a trace is told. No machine is in it.
use Rattle.std.specs.Prelude.{◌≡◌, ℕ, ◌-◌, Bool, false, ◌||◌, if◌then◌else◌, List, [], ◌∷◌, ◌++◌, length, Option, Some, None, is_some}
use Rattle.std.specs.Option.{option_map}
use Rattle.sa_base.specs.declared.number.ProcNo.{ProcNo}
use Rattle.sa_base.specs.declared.record.Item.{Item}
use Rattle.sa_spaces.specs.Workload.{WorkloadView}
use Rattle.sa_laws.specs.Event.{Event, events_of, items_of}
use Rattle.sa_laws.specs.History.{readings}
use Rattle.sa_laws.specs.Legal.{IsLegal, IsStrictRun, EndOf}
use Rattle.sa_laws.specs.Life.{Life}
use Rattle.sa_laws.specs.Opening.{opening_event}
use Rattle.sa_laws.specs.Readings.{Readings, line_of, life_on}
use Rattle.sa_laws.specs.Rules.{UserRules}
use Rattle.sa_laws.specs.State.{State, Runner, thread_at, runner_on}
use Rattle.sa_debug.specs.declared.script.command.Point.{Point}
use Rattle.sa_debug.specs.Order.{last_proc}
use Rattle.sa_debug.specs.Session.{Watched}
use Rattle.sa_debug.specs.Views.{view_in}

-- ONE MORE TURN: one event more, of this processor and with the next number, which leaves a legal run and a strict one
pub record AddsTurn (u : UserRules) (w : WorkloadView) (items : List Item) (p : ProcNo) (after : List Item) : Type 0 where
  pub event : Event
  pub proc : event.proc ≡ p
  pub number : event.number ≡ length (events_of items)
  pub adds : events_of after ≡ events_of items ++ event ∷ []
  pub legal : IsLegal u w after
  pub strict : IsStrictRun u w after

-- what is read of a history
abbrev pub read : UserRules → WorkloadView → List Item → Readings
read u w items = readings u.inside w (events_of items)

-- WHERE A PROCESSOR STANDS: where its line is low and no life is in there, at the next instruction of the thread that runs on it
abbrev pub is_in : Option Life → Bool
is_in None = false
is_in (Some life) = life.inside

abbrev pub point_of : State → Runner → Point
point_of a runner = record { space = runner.space; thread = runner.thread; place = (thread_at a runner.space runner.thread).pc }

abbrev pub stands_on : Readings → ProcNo → Option Point
stands_on r p = if is_some (line_of r p) || is_in (life_on r p) then None else option_map (point_of r.state) (runner_on r.state p)

-- the history at the beginning: the opening alone
abbrev pub opening_items : WorkloadView → List Item
opening_items w = items_of (opening_event w ∷ [])

-- a history of this workload, by the rules of its user level
abbrev pub over_histories : UserRules → WorkloadView → (budget : ℕ) → Watched (List Item)
over_histories u w budget = record {
  processors = λ items. w.processors;
  IsTurn = λ items p after. AddsTurn u w items p after;
  HasEnded = λ items end. EndOf u w budget items end;
  event = λ items. length (events_of items) - 1;
  last = λ items. last_proc items;
  stands = λ items p. stands_on (read u w items) p;
  view = λ items s t. view_in (read u w items).state s t;
}
