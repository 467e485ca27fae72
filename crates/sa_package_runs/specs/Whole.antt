-- What is said of the run of a workload, in the words of the laws.
use Rattle.std.specs.Prelude.{◌≡◌, ℕ, ◌+◌, Some, List, length, slice_get}
use Rattle.sa_base.specs.declared.record.End.{End}
use Rattle.sa_base.specs.declared.record.Item.{Item}
use Rattle.sa_spaces.specs.Workload.{WorkloadView, IsWorkload}
use Rattle.sa_assign.specs.Reaim.{proc_no}
use Rattle.sa_laws.specs.Event.{Event, events_of}
use Rattle.sa_laws.specs.Legal.{IsLegal, IsStrictRun, EndOf, IsRight}
use Rattle.sa_laws.specs.Rules.{UserRules}
use Rattle.sa_abstract.specs.Calls.{Calls}
use Rattle.sa_sched.specs.Order.{Order, processor_at}
use Rattle.sa_run.specs.Run.{RunsTo, RunsSoFar}

-- The trace is a legal run of the workload by the rules of its user level.
pub record IsLegalRun (u : UserRules) (w : WorkloadView) (items : List Item) : Type 0 where
  pub legal : IsLegal u w items
  -- each event has its place as its number
  pub numbers : (k : ℕ) (e : Event) → slice_get (events_of items) k ≡ Some e → e.number ≡ k

-- It is a strict one, with this many events after the opening, and event k is of the order's k-th processor.
pub record IsTurnByTurn (u : UserRules) (w : WorkloadView) (order : Order) (items : List Item) (events : ℕ) : Type 0 where
  pub run : IsLegalRun u w items
  pub strict : IsStrictRun u w items
  pub count : length (events_of items) ≡ events + 1
  pub follows : (k : ℕ) (e : Event) → slice_get (events_of items) (k + 1) ≡ Some e → e.proc ≡ proc_no (processor_at order w.processors (k + 1))

-- It has ended so within a budget, and with a last line that says so it breaks no rule.
pub record IsEnded (u : UserRules) (w : WorkloadView) (budget : ℕ) (items : List Item) (end : End) (events : ℕ) : Type 0 where
  pub ends : EndOf u w budget items (Some end)
  pub right : IsRight u w items (record { end = end; events = events })

-- So it is with each run of a user level's calls by a schedule, as far as it came; and where it ended, with its end.
abbrev pub RunsSoFarAreLegal : {U C : Type 0} → Calls U C → UserRules → Type 0
RunsSoFarAreLegal f u =
    (w : WorkloadView) (order : Order) (budget : ℕ) (items : List Item) → IsWorkload w
    → (run : RunsSoFar f w order budget items) → IsTurnByTurn u w order items run.events

abbrev pub WholeRunsAreLegal : {U C : Type 0} → Calls U C → UserRules → Type 0
WholeRunsAreLegal f u =
    (w : WorkloadView) (order : Order) (budget : ℕ) (items : List Item) (end : End) (events : ℕ) → IsWorkload w
    → RunsTo f w order budget items end events
    → IsTurnByTurn u w order items events × IsEnded u w budget items end events
