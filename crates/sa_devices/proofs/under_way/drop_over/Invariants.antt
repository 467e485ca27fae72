use Rattle.std.proofs.Common.{◌≡◌, ◌≤◌}
use Rattle.std.specs.BinaryHeap.{heap_items, heap_len, heap_capacity, IsHeap}
use Rattle.sa_devices.specs.Kept.{key_cmp, HaveKeys}
use Rattle.sa_devices.proofs.under_way.drop_over.Given as goal

abbrev pub invariant-loop-ends : goal.invariant-loop-ends
invariant-loop-ends l = record {
  order : IsHeap key_cmp (heap_items l.by_end);
  keyed : HaveKeys l.places (heap_items l.by_end);
  len : heap_len l.by_end ≤ heap_len l.fn.by_end;
  capacity : heap_capacity l.by_end ≡ heap_capacity l.fn.by_end;
}

abbrev pub decreases-loop-ends : goal.decreases-loop-ends
decreases-loop-ends l = heap_len l.by_end
