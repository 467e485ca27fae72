use Rattle.std.proofs.Common.{map, ap, ◌∙◌}
use Rattle.sa_batch.specs.Notices.{notes_of}
use Rattle.sa_batch.proofs.Batches.{one-more-empty, room-for-none}
use Rattle.sa_batch.proofs.notices.empty_batches.Goals as goal

pub loop-preserved : goal.loop-preserved
loop-preserved c = record {
  notes = ap (map notes_of) c.in_ok-push.ensures.items ∙ one-more-empty _ _ _ c.new.ensures.notes c.loop.invariant.notes;
  room = room-for-none _;
}
