use Rattle.std.proofs.Common.{◌≡◌, ◌≢◌, ◌≤◌, [], ◌∷◌, length}
use Rattle.sa_base.specs.Items.{items_at}
use Rattle.sa_trace.specs.Reader.{in_front, left}
use Rattle.sa_check.proofs.event.gather.Given as goal

-- the records so far are the front of what was left to tell
abbrev pub invariant-loop-item : goal.invariant-loop-item
invariant-loop-item l = record {
  some : l.records.items ≢ [];
  cut : in_front (l.first ∷ []) (left l.fn.reader) ≡ in_front (items_at l.first.event l.first.proc l.records.items) (left l.reader);
  fewer : length l.reader.lines ≤ length l.fn.reader.lines;
}

abbrev pub decreases-loop-item : goal.decreases-loop-item
decreases-loop-item l = length l.reader.lines
