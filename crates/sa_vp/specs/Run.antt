-- A whole run on virtual processors: turn by turn in an order of processors, up to its first end.
use Rattle.std.specs.Prelude.{◌≡◌, ℕ, ◌+◌, ◌<◌, ◌≤◌, List, length, map, Option, Some, None, slice_index}
use Rattle.std.specs.List.{range_with_len}
use Rattle.sa_base.specs.declared.number.ProcNo.{ProcNo}
use Rattle.sa_base.specs.declared.record.Item.{Item}
use Rattle.sa_base.specs.declared.record.End.{End}
use Rattle.sa_spaces.specs.Workload.{WorkloadView}
use Rattle.sa_assign.specs.Reaim.{proc_no}
use Rattle.sa_sched.specs.Order.{Order, processor_at}
use Rattle.sa_laws.specs.Event.{Event, items_of}
use Rattle.sa_virtual.specs.Virtual.{opening}
use Rattle.sa_virtual.specs.Legal.{IsLegalVp, EndsWith, after_all, lost_of, run_from}

-- the first processors of an order, and the events of their turns
abbrev pub first_turns : WorkloadView → Order → ℕ → List ProcNo
first_turns w order n = map (λ k. proc_no (processor_at order w.processors (k + 1))) (range_with_len 0 n)

abbrev pub first_events : WorkloadView → Order → ℕ → List Event
first_events w order n = run_from w (opening w) (first_turns w order n)

-- how a run has ended after its first turns, if it has
abbrev pub EndsAt : WorkloadView → Order → ℕ → ℕ → Option End → Type 0
EndsAt w order budget n end = EndsWith budget (after_all w (opening w) (first_events w order n)) n end

-- these are the items of the first turns by the order; they are a legal run on virtual processors, which has ended after
-- none but the last of these turns
pub record IsVpRun (w : WorkloadView) (order : Order) (budget : ℕ) (items : List Item) (events : ℕ) : Type 0 where
  pub history : items ≡ items_of (first_events w order events)
  pub legal : IsLegalVp w items
  pub within : events ≤ budget
  pub not_ended : (k : ℕ) → k < events → EndsAt w order budget k None

-- the run of the workload comes so far, and has not ended
pub record RunsSoFar (w : WorkloadView) (order : Order) (budget : ℕ) (items : List Item) : Type 0 where
  pub events : ℕ
  pub run : IsVpRun w order budget items events
  pub unended : EndsAt w order budget events None

-- the run of the workload ends so, after that many events; these are its items, and what each space has lost
pub record RunsTo (w : WorkloadView) (order : Order) (budget : ℕ) (items : List Item) (end : End) (events : ℕ) (lost : List ℕ) : Type 0 where
  pub run : IsVpRun w order budget items events
  pub ends : EndsAt w order budget events (Some end)
  pub spaces : length lost ≡ length w.spaces
  pub losses : (s : ℕ) → s < length w.spaces → slice_index lost s ≡ lost_of w (first_events w order events) (record { 0 = s })
