-- What an entry of a seat answers.
use Rattle.std.specs.Prelude.{◌≡◌, ◌≢◌, ℕ, zero, suc, ◌<◌, ◌≤◌, Some, None}
use Rattle.sa_spaces.specs.Workload.{WorkloadView}
use Rattle.sa_abstract.specs.Calls.{Calls}
use Rattle.sa_abstract.specs.declared.answer.SeatState.{SeatState}
use Rattle.sa_kernel_model.specs.State.{line_of}
use Rattle.sa_core_model.specs.Machine.{Machine}
use Rattle.sa_core_model.specs.Turn.{committed}
use Rattle.sa_core_model.specs.End.{end_of, committable, local_on}
use Rattle.sa_core_model.specs.Run.{IsTurn}
use Rattle.sa_lines.specs.declared.credit.Credit.{Credit}
use Rattle.sa_lines.specs.declared.credit.Credit.TheVariants.{Turns, End as EndCredit}
use Rattle.sa_lines.specs.Seen.{with_credit}
use Rattle.sa_seat.specs.declared.answer.Entered.{Entered}
use Rattle.sa_seat.specs.declared.answer.Entered.TheVariants.{Turned, DroppedLine, DroppedStart, Ended}
use Rattle.sa_seat.specs.Chain.{IsLed}
use Rattle.sa_seat.specs.Seat.{SeatView, renewed}

-- the seat was credited something
abbrev pub with_credited : Credit → SeatView → SeatView
with_credited what s = record s { poller = with_credit what s.poller }

-- what an answer credits
abbrev pub credited_by : Entered → SeatView → SeatView
credited_by (Turned n) s = with_credited (Turns n) s
credited_by (Ended x) s = with_credited (EndCredit x) s
credited_by (DroppedLine e) s = s
credited_by (DroppedStart c start) s = s

module _ {U C : Type 0} (f : Calls U C) (budget : ℕ) where
  -- the burst is dropped: the run goes on, and one is pending
  pub record IsDropped (m : Machine U C) (s : SeatView) (after : Machine U C) : Type 0 where
    pub not_ended : end_of f budget m ≡ None
    pub pending : 0 < s.pending
    pub same : after ≡ m

  -- the burst is committed, whole or as much of it as the budget and the slice leave
  pub record IsCommitted (m : Machine U C) (s : SeatView) (n : ℕ) (after : Machine U C) : Type 0 where
    pub not_ended : end_of f budget m ≡ None
    pub low : line_of m.kernel s.poller.proc ≡ None
    pub start : local_on f m s.poller.proc ≡ s.start
    pub made : n ≡ committable budget m s.pending
    pub some : 1 ≤ n
    pub few : n ≤ s.pending
    pub is : after ≡ committed f s.poller.proc n m

  -- a turn
  pub record IsTurned (m : Machine U C) (s : SeatView) (n : ℕ) (after : Machine U C) : Type 0 where
    pub not_ended : end_of f budget m ≡ None
    pub one : n ≡ 1
    pub turn : IsTurn f m s.poller.proc after

  abbrev pub IsEvents : Machine U C → SeatView → ℕ → ℕ → Machine U C → Type 0
  IsEvents m s zero n after = IsTurned m s n after
  IsEvents m s (suc k) n after = IsCommitted m s n after

  -- the first of these that applies
  abbrev pub IsAnswer : Machine U C → SeatView → Entered → Machine U C → Type 0
  IsAnswer m s (Ended x) after = (end_of f budget m ≡ Some x) × (after ≡ m)
  IsAnswer m s (DroppedLine e) after = IsDropped m s after × (line_of m.kernel s.poller.proc ≡ Some e)
  IsAnswer m s (DroppedStart c start) after =
      IsDropped m s after × (line_of m.kernel s.poller.proc ≡ None)
      × (c ≡ local_on f m s.poller.proc) × (start ≡ s.start) × (c ≢ start)
  IsAnswer m s (Turned n) after = IsEvents m s s.pending n after

  -- what an entry answers, and the seat afterwards
  pub record IsEntered (m : Machine U C) (s : SeatView) (answer : Entered) (after : Machine U C) (seat : SeatView) : Type 0 where
    pub answers : IsAnswer m s answer after
    pub seat_is : seat ≡ renewed (local_on f after s.poller.proc) (credited_by answer s)

  -- the same without the lock: the answer is that of one turn at a machine which the lock held
  pub record IsOneTurn (w : WorkloadView) (s : SeatView) (answer : Entered) (seat : SeatView) : Type 0 where
    pub before : Machine U C
    pub led : IsLed f budget w before
    pub after : Machine U C
    pub entered : IsEntered before s answer after seat

-- what can be said of an entry without the lock: how many events it became, or which burst was dropped
abbrev pub FitsAnswer : SeatView → Entered → Type 0
FitsAnswer s (Turned n) = (1 ≤ n) × (s.pending ≡ 0 → n ≡ 1) × (0 < s.pending → n ≤ s.pending)
FitsAnswer s (DroppedLine e) = 0 < s.pending
FitsAnswer s (DroppedStart c start) = (0 < s.pending) × (start ≡ s.start) × (c ≢ start)
FitsAnswer s (Ended x) = Unit {0}

-- the seat after an entry, whose copy is the core's context
pub record HasEntered (old : SeatView) (answer : Entered) (new : SeatView) : Type 0 where
  pub fits : FitsAnswer old answer
  pub context : SeatState
  pub seat_is : new ≡ renewed context (credited_by answer old)
