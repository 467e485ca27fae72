use Rattle.std.proofs.Common.{◌≡◌, ◌+◌, ◌++◌, map, take, length}
use Rattle.sa_base.specs.declared.record.Record.TheVariants.{Told}
use Rattle.sa_base.specs.Items.{items_at}
use Rattle.sa_batch.proofs.notices.say_all_told.Given as goal

abbrev pub invariant-loop-note : goal.invariant-loop-note
invariant-loop-note l = record {
  items : l.trace.items ≡ l.fn.trace.items ++ items_at l.event l.p (map Told (take l.note-index l.notes));
  cost : l.fn.trace.spare ≡ l.trace.spare + l.note-index;
  spare : l.trace.spare + length l.trace.items ≡ l.fn.trace.spare + length l.fn.trace.items;
}
