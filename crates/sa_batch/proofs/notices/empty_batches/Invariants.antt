use Rattle.std.proofs.Common.{◌≡◌, [], map, replicate}
use Rattle.sa_batch.specs.Notices.{notes_of, HaveRoom}
use Rattle.sa_batch.proofs.notices.empty_batches.Given as goal

abbrev pub invariant-loop : goal.invariant-loop
invariant-loop l = record {
  notes : map notes_of l.batches.items ≡ replicate l.counter [];
  room : HaveRoom 0 l.batches.items;
}
