-- The history that host threads make.
use Rattle.std.proofs.Common.{◌≡◌, ℕ, ◌+◌, ◌<◌, ◌≤◌, List, length, Option, sum, sym, ap, ◌∙◌, subst}
use Rattle.sa_base.specs.declared.record.Item.{Item}
use Rattle.atomic_table.specs.Seated.{TableId}
use Rattle.sa_spaces.specs.Workload.{WorkloadView, IsWorkload}
use Rattle.sa_laws.specs.Event.{events_of}
use Rattle.sa_laws.specs.Legal.{EndOf, IsRight}
use Rattle.sa_laws.specs.Rules.{fast_threads}
use Rattle.sa_core_model.specs.End.{end_of}
use Rattle.sa_core_model.specs.Run.{Move}
use Rattle.sa_package_model.specs.declared.package.Package.{Package}
use Rattle.sa_package_model.specs.declared.context.Context.{Context}
use Rattle.sa_package_model.specs.Step.{fast_calls}
use Rattle.sa_core.specs.View.{CoreView, machine}
use Rattle.sa_lines.specs.Seen.{KeeperSeen}
use Rattle.sa_seat.specs.Chain.{IsChain, turns_of}
use Rattle.sa_seat.specs.Lock.{IsLocked}
use Rattle.sa_seat.specs.Seat.{SeatView}
use Rattle.sa_seat.specs.Closed.{ClosedView, IsClosed}
use Rattle.sa_workers.specs.Run.{HasRun, turns_at}
use Rattle.sa_fast_laws.proofs.FastLaws.{fast_level}
use Rattle.sa_package_runs.specs.Runs.{FastMachine}
use Rattle.sa_package_runs.specs.Whole.{IsLegalRun}
use Rattle.sa_package_runs.specs.Threads.{HasNoEarlierEnd, events_on, IsLegalLock, IsLegalClosed, IsLegalHistory}
use Rattle.sa_package_runs.proofs.Chains.{chain-legal, chain-ends, chain-counts, chain-right, chain-open, chain-counts-on}

-- what the machine's lock keeps
pub lock-legal : (w : WorkloadView) (budget : ℕ) (table : TableId) (core : CoreView Package Context) (lines : List (Option ℕ)) (keeper : KeeperSeen)
    → IsLocked fast_calls budget w table core lines keeper → IsLegalLock w budget core keeper
lock-legal w budget table core lines keeper locked =
    let m = machine core in
    record {
      run = chain-legal fast_level w locked.workload budget locked.moves m locked.chain;
      ongoing = chain-open w locked.workload budget locked.moves m locked.chain locked.within;
      ends = chain-ends fast_level w locked.workload budget locked.moves m locked.chain;
      counts = λ p inside.
          (locked.kept.each p inside).count ∙ sym (chain-counts-on w locked.workload budget locked.moves m locked.chain p);
    }

-- what a chain leaves
module _ (w : WorkloadView) (ok : IsWorkload w) (budget : ℕ) (moves : List Move) (m : FastMachine) (chain : IsChain fast_calls budget w moves m)
    (closed : ClosedView) (shows : closed.items ≡ m.items) where
  left-legal : m.event ≤ budget → closed.end ≡ end_of fast_calls budget m
      → ((p : ℕ) → p < w.processors → turns_at closed p ≡ turns_of p moves) → IsLegalClosed w budget closed
  left-legal few end turns = record {
    run = subst (IsLegalRun fast_threads w) (sym shows) (chain-legal fast_level w ok budget moves m chain);
    ongoing = subst (HasNoEarlierEnd w budget) (sym shows) (chain-open w ok budget moves m chain few);
    ends = subst (λ (xs : List Item). EndOf fast_threads w budget xs closed.end) (sym shows)
        (subst (EndOf fast_threads w budget m.items) (sym end) (chain-ends fast_level w ok budget moves m chain));
    counts = λ p inside.
        turns p inside ∙ sym (chain-counts-on w ok budget moves m chain p) ∙ ap (events_on p) (sym shows);
  }

pub closed-legal : (w : WorkloadView) (budget : ℕ) (seats : List SeatView) (closed : ClosedView) → IsWorkload w
    → IsClosed fast_calls w budget seats closed → IsLegalClosed w budget closed
closed-legal w budget seats closed ok is =
    left-legal w ok budget is.moves is.machine is.chain closed is.shows is.few is.end is.turns

pub shared-legal : (w : WorkloadView) (budget : ℕ) (closed : ClosedView) → IsWorkload w → HasRun fast_calls w budget closed → IsLegalHistory w budget closed
shared-legal w budget closed ok run =
    let m = run.machine in
    let legal = left-legal w ok budget run.moves m run.chain closed run.shows run.few run.end run.turns in
    record {
      legal = legal;
      count = ap (λ (xs : List Item). length (events_of xs)) run.shows ∙ chain-counts fast_level w ok budget run.moves m run.chain
          ∙ ap (λ n. n + 1) (sym run.events);
      quotas = λ spent p inside. sym (legal.counts p inside) ∙ run.spent spent p inside;
      right = λ end is. subst (λ (xs : List Item). IsRight fast_threads w xs (record { end = end; events = sum closed.turns })) (sym run.shows)
          (subst (λ (n : ℕ). IsRight fast_threads w m.items (record { end = end; events = n })) (sym run.events)
          (chain-right fast_level w ok budget run.moves m run.chain end (sym run.end ∙ is)));
    }
