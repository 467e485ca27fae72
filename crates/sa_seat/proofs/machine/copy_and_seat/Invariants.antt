use Rattle.std.proofs.Common.{◌≡◌, ◌≤◌, ℕ, Some, length, drop, slice_get, vec_len}
use Rattle.sa_seat.specs.Seat.{SeatView, fresh_seat}
use Rattle.sa_seat.proofs.machine.copy_and_seat.Given as goal

abbrev pub invariant-loop-seats : goal.invariant-loop-seats
invariant-loop-seats g l = record {
  rest : l.pollers.items ≡ drop (length l.seats.items) l.fn.pollers.items;
  within : length l.seats.items ≤ length l.fn.pollers.items;
  seats : (p : ℕ) (s : SeatView) → slice_get l.seats.items p ≡ Some s → s ≡ fresh_seat g.K.Named.table p;
}

abbrev pub decreases-loop-seats : goal.decreases-loop-seats
decreases-loop-seats g l = vec_len l.pollers
