-- What the worker of a seat does.
use Rattle.std.specs.Prelude.{◌≡◌, ℕ, ◌+◌, ◌-◌, ◌<◌, ◌≤◌, ◌⊎◌, Bool, false, min, IsSome, List, [], ◌∷◌}
use Rattle.sa_spaces.specs.Workload.{WorkloadView}
use Rattle.sa_seat.specs.declared.answer.BurstEnd.{BurstEnd}
use Rattle.sa_seat.specs.declared.answer.Entered.{Entered}
use Rattle.sa_seat.specs.Seat.{SeatView, IsBurst}
use Rattle.sa_seat.specs.Enter.{HasEntered}

-- what a worker does with its seat: it runs instructions ahead, until this stops it, or it enters, and is answered so
pub data Act : Type 0 where
  ahead : BurstEnd → Act
  entry : Entered → Act

-- at most `burst` instructions run ahead, and no more than are left of the quota
abbrev pub limit_of : ℕ → ℕ → SeatView → ℕ
limit_of quota burst s = min (quota - s.poller.account.count) burst

abbrev pub IsAct : WorkloadView → ℕ → ℕ → SeatView → Act → SeatView → Type 0
IsAct w quota burst old (ahead end) new = (old.pending ≡ 0) × IsBurst w (limit_of quota burst old) old end new
IsAct w quota burst old (entry answer) new = (old.poller.account.count < quota) × HasEntered old answer new

-- one after another, of which the last is first in the list
abbrev pub Acted : WorkloadView → ℕ → ℕ → SeatView → List Act → SeatView → Type 0
Acted w quota burst old [] new = new ≡ old
Acted w quota burst old (act ∷ acts) new = (between : SeatView) × Acted w quota burst old acts between × IsAct w quota burst between act new

-- these acts led there: the seat is the same processor's, and its count, with the burst that is pending, does not go past the
-- quota
pub record HasWorked (w : WorkloadView) (quota burst : ℕ) (old new : SeatView) : Type 0 where
  pub acts : List Act
  pub acted : Acted w quota burst old acts new
  pub table : new.poller.table ≡ old.poller.table
  pub proc : new.poller.proc ≡ old.poller.proc
  pub more : old.poller.account.count ≤ new.poller.account.count
  pub within : old.poller.account.count + old.pending ≤ quota → new.poller.account.count + new.pending ≤ quota

-- the worker is through: the seat was told the end of the run, or it has its quota
abbrev pub IsThrough : ℕ → SeatView → Type 0
IsThrough quota s = IsSome s.poller.account.end ⊎ (quota ≤ s.poller.account.count)

-- a burst where one is wanted and none is pending
pub record HasRunAhead (w : WorkloadView) (quota burst : ℕ) (wanted : Bool) (old new : SeatView) : Type 0 where
  pub worked : HasWorked w quota burst old new
  pub account : new.poller.account ≡ old.poller.account
  pub waits : wanted ≡ false → new ≡ old
