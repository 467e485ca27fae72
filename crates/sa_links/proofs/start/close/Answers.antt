use Rattle.std.proofs.Common.{arith, length, ◌<◌}
use Rattle.sa_links.proofs.Joining.{relinked_twice}
use Rattle.sa_links.proofs.LinksSteps.{closed_more, wires_size}
use Rattle.sa_links.specs.Wiring.{wires_of}
use Rattle.std.specs.Vec.{vec_ptr}
use Rattle.sa_links.proofs.start.close.Goals as goal

pub loop-index-preserved : goal.loop-index-preserved
loop-index-preserved c =
    let base = vec_ptr c.loop-index.nodes in let nodes = c.loop-index.nodes.items in
    let inside = c.slot_of-slot.ensures.slot.inside in let index = c.slot_of-slot.ensures.index in
    let lens = wires_size base nodes in
    let low : c.loop-index.index < length nodes = omega (arith, inside, index) in
    record {
      relinked = relinked_twice _ _ _ _ _ _ c.loop-index.invariant.relinked c.join.ensures.relinked;
      closed =
          closed_more (wires_of base nodes) _ c.loop-index.index _ (length nodes) index low lens.0 lens.1 c.join.ensures.wires c.loop-index.invariant.closed;
    }
