-- What is said of the history that host threads make, in the words of the laws.
use Rattle.std.specs.Prelude.{◌≡◌, ℕ, ◌+◌, ◌<◌, Bool, List, Option, Some, None, length, sum, drop, count_by, ◌==◌}
use Rattle.sa_base.specs.declared.record.End.{End}
use Rattle.sa_base.specs.declared.record.End.TheVariants.{Budget}
use Rattle.sa_base.specs.declared.record.Item.{Item}
use Rattle.atomic_table.specs.Seated.{TableId}
use Rattle.sa_spaces.specs.Workload.{WorkloadView, IsWorkload}
use Rattle.sa_laws.specs.Ends.{EndsWith}
use Rattle.sa_laws.specs.Event.{Event, events_of}
use Rattle.sa_laws.specs.Legal.{EndOf, IsRight, before}
use Rattle.sa_laws.specs.Rules.{fast_threads}
use Rattle.sa_package_model.specs.declared.package.Package.{Package}
use Rattle.sa_package_model.specs.declared.context.Context.{Context}
use Rattle.sa_package_model.specs.Step.{fast_calls}
use Rattle.sa_core_model.specs.End.{end_of}
use Rattle.sa_core.specs.View.{CoreView, machine}
use Rattle.sa_lines.specs.Words.{lane_at}
use Rattle.sa_lines.specs.Seen.{KeeperSeen}
use Rattle.sa_seat.specs.Closed.{ClosedView, IsClosed}
use Rattle.sa_seat.specs.Lock.{IsLocked}
use Rattle.sa_seat.specs.Seat.{SeatView}
use Rattle.sa_workers.specs.Quota.{quota_of}
use Rattle.sa_workers.specs.Run.{HasRun, turns_at}
use Rattle.sa_package_runs.specs.Whole.{IsLegalRun}

-- how many of a history's events, from 1 on, are of a processor
abbrev pub is_of : ℕ → Event → Bool
is_of p e = e.proc.0 == p

abbrev pub events_on : ℕ → List Item → ℕ
events_on p items = count_by (is_of p) (drop 1 (events_of items))

-- after no event but the last one has the run ended
pub record HasNoEarlierEnd (w : WorkloadView) (budget : ℕ) (items : List Item) : Type 0 where
  pub each : (n : ℕ) → n + 1 < length (events_of items) → EndsWith budget (before fast_threads w (events_of items) (n + 1)) n None

-- WHILE THE MACHINE RUNS: whenever its lock is free, the core has a legal run, which had not ended before its last event, and
-- the keeper's count of a processor is the number of its events.
pub record IsLegalLock (w : WorkloadView) (budget : ℕ) (core : CoreView Package Context) (keeper : KeeperSeen) : Type 0 where
  pub run : IsLegalRun fast_threads w (machine core).items
  pub ongoing : HasNoEarlierEnd w budget (machine core).items
  pub ends : EndOf fast_threads w budget (machine core).items (end_of fast_calls budget (machine core))
  pub counts : (p : ℕ) → p < w.processors → (lane_at keeper.lanes p).account.count ≡ events_on p (machine core).items

abbrev pub LocksAreLegal : Type 0
LocksAreLegal =
    (w : WorkloadView) (budget : ℕ) (table : TableId) (core : CoreView Package Context) (lines : List (Option ℕ)) (keeper : KeeperSeen)
    → IsLocked fast_calls budget w table core lines keeper → IsLegalLock w budget core keeper

-- WHEN IT IS CLOSED: its history is a legal run, which had not ended before its last event; it ended as the definitions say; and
-- the count of a processor is the number of its events.
pub record IsLegalClosed (w : WorkloadView) (budget : ℕ) (closed : ClosedView) : Type 0 where
  pub run : IsLegalRun fast_threads w closed.items
  pub ongoing : HasNoEarlierEnd w budget closed.items
  pub ends : EndOf fast_threads w budget closed.items closed.end
  pub counts : (p : ℕ) → p < w.processors → turns_at closed p ≡ events_on p closed.items

abbrev pub ClosedAreLegal : Type 0
ClosedAreLegal =
    (w : WorkloadView) (budget : ℕ) (seats : List SeatView) (closed : ClosedView) → IsWorkload w
    → IsClosed fast_calls w budget seats closed → IsLegalClosed w budget closed

-- WHEN ALL HOST THREADS ARE DONE: there are as many events after the opening as the counts sum up to; where the budget ended the
-- run each processor had just its quota; and with its last line the history breaks no rule.
pub record IsLegalHistory (w : WorkloadView) (budget : ℕ) (closed : ClosedView) : Type 0 where
  pub legal : IsLegalClosed w budget closed
  pub count : length (events_of closed.items) ≡ sum closed.turns + 1
  pub quotas : closed.end ≡ Some Budget → (p : ℕ) → p < w.processors → events_on p closed.items ≡ quota_of w.processors p budget
  pub right : (end : End) → closed.end ≡ Some end → IsRight fast_threads w closed.items (record { end = end; events = sum closed.turns })

abbrev pub SharedRunsAreLegal : Type 0
SharedRunsAreLegal =
    (w : WorkloadView) (budget : ℕ) (closed : ClosedView) → IsWorkload w → HasRun fast_calls w budget closed → IsLegalHistory w budget closed
