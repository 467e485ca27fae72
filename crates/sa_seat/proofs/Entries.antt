-- What an entry is to those who do not see the lock.
use Rattle.std.proofs.Common.{◌≡◌, ℕ, zero, suc, ◌<◌, refl, sym, subst, arith}
use Rattle.sa_spaces.specs.Workload.{WorkloadView}
use Rattle.sa_abstract.specs.Calls.{Calls}
use Rattle.sa_core_model.specs.Machine.{Machine}
use Rattle.sa_seat.specs.declared.answer.Entered.{Entered}
use Rattle.sa_seat.specs.Chain.{IsLed}
use Rattle.sa_seat.specs.Seat.{SeatView}
use Rattle.sa_seat.specs.Enter.{IsTurned, IsCommitted, IsEvents, IsEntered, IsOneTurn}

module _ {U C : Type 0} (f : Calls U C) (budget : ℕ) (m : Machine U C) (s : SeatView) where
  pub events-none : (n : ℕ) (after : Machine U C) → s.pending ≡ 0 → IsTurned f budget m s n after → IsEvents f budget m s s.pending n after
  events-none n after none is = subst (λ (k : ℕ). IsEvents f budget m s k n after) (sym none) is

  -- the answer of one turn, where moves led to the machine
  pub one_turn : (w : WorkloadView) (answer : Entered) (after : Machine U C) (seat : SeatView) → IsLed f budget w m → IsEntered f budget m s answer after seat
      → IsOneTurn f budget w s answer seat
  one_turn w answer after seat led is = record { before = m; led = led; after = after; entered = is }
