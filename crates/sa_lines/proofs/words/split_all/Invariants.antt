use Rattle.std.proofs.Common.{◌≡◌, ◌≤◌, replicate, [], vec_capacity, vec_len}
use Rattle.sa_lines.specs.declared.view.View.TheVariants.{Keeping}
use Rattle.sa_lines.specs.Words.{fresh_lane}
use Rattle.sa_lines.specs.Seen.{fresh_pollers}
use Rattle.sa_lines.proofs.words.split_all.Given as goal

abbrev pub invariant-loop-p : goal.invariant-loop-p
invariant-loop-p l = record {
  own : l.seat.table_id ≡ l.fn.seat.table_id;
  view : l.seat.me ≡ (Keeping (replicate l.fn.processors fresh_lane) l.p, []);
  len : vec_len l.pollers ≡ l.p;
  room : l.fn.processors ≤ vec_capacity l.pollers;
  pollers : l.pollers.items ≡ fresh_pollers l.fn.words l.p;
}
