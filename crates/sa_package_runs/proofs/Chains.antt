-- What a chain of turns and commits leaves, in the words of the laws.
use Rattle.std.proofs.Common.{◌≡◌, ℕ, ◌+◌, ◌≤◌, List, length, Some, arith}
use Rattle.sa_base.specs.declared.record.End.{End}
use Rattle.sa_spaces.specs.Workload.{WorkloadView, IsWorkload}
use Rattle.sa_assign.specs.Reaim.{proc_no}
use Rattle.sa_laws.specs.Event.{events_of}
use Rattle.sa_laws.specs.Legal.{EndOf, IsRight}
use Rattle.sa_core_model.specs.End.{end_of}
use Rattle.sa_core_model.specs.Machine.{Machine}
use Rattle.sa_core_model.specs.Run.{opening, Move}
use Rattle.sa_package_model.specs.Step.{fast_calls}
use Rattle.sa_user_laws.specs.Level.{UserLevel}
use Rattle.sa_legal_runs.proofs.runs.LegalRuns.{runs-are-legal, runs-end, runs-follow, runs-number, runs-count}
use Rattle.sa_legal_runs.proofs.runs.RightTraces.{runs-are-right, runs-go-on}
use Rattle.sa_seat.specs.Chain.{IsChain, turns_of}
use Rattle.sa_package_runs.specs.Runs.{FastMachine}
use Rattle.sa_package_runs.specs.Whole.{IsLegalRun}
use Rattle.sa_package_runs.specs.Threads.{HasNoEarlierEnd, events_on}
use Rattle.sa_fast_laws.proofs.FastLaws.{fast_level}
use Rattle.sa_package_runs.proofs.Counted.{counted}
use Rattle.sa_package_runs.proofs.Leading.{leads-run, leads-open}

-- of any user level that keeps its laws, a chain's history is a legal run, and ends as the definitions say
module _ {V C : Type 0} (level : UserLevel V C) (w : WorkloadView) (ok : IsWorkload w) (budget : ℕ) (moves : List Move) (m : Machine V C)
    (chain : IsChain level.calls budget w moves m) where
  pub chain-legal : IsLegalRun level.rules w m.items
  chain-legal =
      let run = leads-run level.calls budget (opening level.calls w) moves m chain in
      record { legal = runs-are-legal level w moves m ok run; numbers = runs-number level w moves m ok run }

  pub chain-ends : EndOf level.rules w budget m.items (end_of level.calls budget m)
  chain-ends = runs-end level w moves m budget ok (leads-run level.calls budget (opening level.calls w) moves m chain)

  pub chain-counts : length (events_of m.items) ≡ m.event + 1
  chain-counts = runs-count level w moves m ok (leads-run level.calls budget (opening level.calls w) moves m chain)

  pub chain-right : (end : End) → end_of level.calls budget m ≡ Some end → IsRight level.rules w m.items (record { end = end; events = m.event })
  chain-right end is =
      runs-are-right level w budget moves m end ok (leads-run level.calls budget (opening level.calls w) moves m chain)
      (leads-open level.calls budget (opening level.calls w) moves m chain) is

-- of FastThreads, as host threads make it
module _ (w : WorkloadView) (ok : IsWorkload w) (budget : ℕ) (moves : List Move) (m : FastMachine) (chain : IsChain fast_calls budget w moves m) where
  -- it had not ended before its last event, and has as many events of a processor as the moves make
  pub chain-open : m.event ≤ budget → HasNoEarlierEnd w budget m.items
  chain-open few = record {
    each = λ n inside.
        let size = chain-counts fast_level w ok budget moves m chain in (
          runs-go-on fast_level w budget moves m ok (leads-run fast_calls budget (opening fast_calls w) moves m chain)
              (leads-open fast_calls budget (opening fast_calls w) moves m chain) n inside,
          λ same. omega (arith, same, size, inside, few),
        );
  }

  pub chain-counts-on : (p : ℕ) → events_on p m.items ≡ turns_of p moves
  chain-counts-on p = counted p (events_of m.items) (proc_no 0) moves
      (runs-follow fast_level w moves m ok (leads-run fast_calls budget (opening fast_calls w) moves m chain))
