use Rattle.std.proofs.Common.{◌≡◌}
use Rattle.sa_lines.proofs.keeper.see_taken.Given as goal

abbrev pub invariant-loop : goal.invariant-loop
invariant-loop g l = record {
  own : l.seat.table_id ≡ l.fn.seat.table_id;
  view : l.seat.me ≡ l.fn.seat.me;
}
