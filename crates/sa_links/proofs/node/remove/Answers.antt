use Rattle.std.proofs.Common.{ap, ◌∙◌}
use Rattle.std.specs.Prelude.{slice_index}
use Rattle.std.specs.Vec.{vec_ptr}
use Rattle.std.specs.Ptr.{Ptr}
use Rattle.sa_links.specs.declared.node.Node.{out-Node}
use Rattle.sa_links.specs.Rings.{Wires, joined}
use Rattle.sa_links.specs.Wiring.{node_index, wires_of}
use Rattle.sa_links.proofs.Joining.{relinked_twice, slot-relinked}
use Rattle.sa_links.proofs.LinksSteps.{next_inside, next_read, prev_inside, prev_read}
use Rattle.sa_links.proofs.node.remove.Goals as goal

pub join-requires-clause-front : goal.join-requires-clause-front
join-requires-clause-front c =
    let nodes = c.args.nodes.now in
    prev_inside (vec_ptr nodes) nodes.items (node_index (vec_ptr nodes) c.args.slot.ptr) c.at-node.result.now c.requires.linked c.requires.slot.inside c.at-node.ensures

pub join-requires-clause-back : goal.join-requires-clause-back
join-requires-clause-back c =
    let nodes = c.args.nodes.now in
    next_inside (vec_ptr nodes) nodes.items (node_index (vec_ptr nodes) c.args.slot.ptr) c.at-node.result.now c.requires.linked c.requires.slot.inside c.at-node.ensures

pub join-requires-2-clause-front : goal.join-requires-2-clause-front
join-requires-2-clause-front c =
    let nodes = c.args.nodes.now in
    slot-relinked (vec_ptr nodes) nodes.items (vec_ptr c.join.new.nodes) c.join.new.nodes.items c.args.slot.ptr c.join.ensures.relinked c.requires.slot

pub join-requires-2-clause-back : goal.join-requires-2-clause-back
join-requires-2-clause-back c =
    let nodes = c.args.nodes.now in
    slot-relinked (vec_ptr nodes) nodes.items (vec_ptr c.join.new.nodes) c.join.new.nodes.items c.args.slot.ptr c.join.ensures.relinked c.requires.slot

pub returns-clause-wires : goal.returns-clause-wires
returns-clause-wires c =
    let nodes = c.args.nodes.now in
    let base = vec_ptr nodes in
    let n = c.at-node.result.now in
    let old = wires_of base nodes.items in
    let x = node_index base c.args.slot.ptr in
    let mid = wires_of (vec_ptr c.join.new.nodes) c.join.new.nodes.items in
    let prev = prev_read base nodes.items x n c.requires.slot.inside c.at-node.ensures in
    let next = next_read base nodes.items x n c.requires.slot.inside c.at-node.ensures in
    c.join-2.ensures.wires
    ∙ ap (λ (b : Ptr). joined mid (node_index b c.args.slot.ptr) (node_index b c.args.slot.ptr)) c.join.ensures.relinked.block
    ∙ ap (λ (w : Wires). joined w x x) (c.join.ensures.wires
    ∙ ap (λ k. joined old k (node_index base (out-Node n).next.ptr)) prev ∙ ap (joined old (slice_index old.prev x)) next)

pub returns-clause-relinked : goal.returns-clause-relinked
returns-clause-relinked c = relinked_twice _ _ _ _ _ _ c.join.ensures.relinked c.join-2.ensures.relinked
