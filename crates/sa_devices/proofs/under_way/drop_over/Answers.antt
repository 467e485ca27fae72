use Rattle.std.proofs.Common.{◌≡◌, ◌+◌, refl, sym, ◌∙◌, subst, arith, ◌∷◌}
use Rattle.std.specs.BinaryHeap.{heap_items, heap_len}
use Rattle.std.specs.List.Sorted.{IsPermutation}
use Rattle.std.proofs.lemmas.Bool.{iff_false}
use Rattle.std.proofs.lemmas.List.{get_or_default}
use Rattle.sa_devices.specs.Kept.{Key}
use Rattle.sa_devices.proofs.KeptLemmas.{popped, on_some, HaveKeys-pop}
use Rattle.sa_devices.proofs.under_way.drop_over.Goals as goal

pub loop-ends-preserved : goal.loop-ends-preserved
loop-ends-preserved c =
    let old = heap_items c.loop-ends.by_end in
    let new = heap_items c.pop.new.self in
    let key = c.in-Some.field-0.now in
    let some = c.pop.ensures.variant.1 (c.in-Some.ensures.variant.0 refl) in
    let pop = popped c.pop.result old new some c.pop.ensures.top c.pop.ensures.permutation c.pop.ensures.heap_order in
    let same : pop.key ≡ key = pop.top ∙ get_or_default old 0 pop.key key c.in-Some.ensures.item.3.0 ∙ sym c.in-Some.ensures.lookup in
    let moved = subst (λ (k : Key). IsPermutation old (k ∷ new)) same pop.moved in
    let shorter = on_some c.pop.result (heap_len c.pop.new.self + 1 ≡ heap_len c.loop-ends.by_end) some c.pop.ensures.len in
    record {
      order = (pop.order c.loop-ends.invariant.order).0;
      keyed = HaveKeys-pop c.args.places.now key old new c.loop-ends.invariant.keyed moved (iff_false c.is_under_way.ensures c.if-is_under_way.false);
      len = omega arith;
      capacity = c.pop.ensures.capacity ∙ c.loop-ends.invariant.capacity;
    }
