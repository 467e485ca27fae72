use Rattle.std.proofs.Common.{ap, ◌∙◌}
use Rattle.std.specs.Vec.{vec_ptr}
use Rattle.std.specs.Ptr.{Ptr}
use Rattle.sa_links.specs.declared.node.Node.{out-Node}
use Rattle.sa_links.specs.Rings.{Wires, joined}
use Rattle.sa_links.specs.Wiring.{node_index, wires_of}
use Rattle.sa_links.proofs.Joining.{relinked_twice, slot-relinked}
use Rattle.sa_links.proofs.LinksSteps.{next_inside, next_read}
use Rattle.sa_links.proofs.node.insert.Goals as goal

pub join-requires-2-clause-front : goal.join-requires-2-clause-front
join-requires-2-clause-front c =
    let nodes = c.args.nodes.now in
    slot-relinked (vec_ptr nodes) nodes.items (vec_ptr c.join.new.nodes) c.join.new.nodes.items c.args.slot.ptr c.join.ensures.relinked c.requires.slot

pub join-requires-2-clause-back : goal.join-requires-2-clause-back
join-requires-2-clause-back c =
    let nodes = c.args.nodes.now in
    let n = c.at.result.now in
    slot-relinked (vec_ptr nodes) nodes.items (vec_ptr c.join.new.nodes) c.join.new.nodes.items (out-Node n).next.ptr c.join.ensures.relinked
    (next_inside (vec_ptr nodes) nodes.items (node_index (vec_ptr nodes) c.args.front.ptr) n c.requires.linked c.requires.front.inside c.at.ensures)

pub returns-clause-wires : goal.returns-clause-wires
returns-clause-wires c =
    let nodes = c.args.nodes.now in
    let base = vec_ptr nodes in
    let n = c.at.result.now in
    let old = wires_of base nodes.items in
    let a = node_index base c.args.front.ptr in
    let x = node_index base c.args.slot.ptr in
    let mid = wires_of (vec_ptr c.join.new.nodes) c.join.new.nodes.items in
    c.join-2.ensures.wires
    ∙ ap (λ (b : Ptr). joined mid (node_index b c.args.slot.ptr) (node_index b (out-Node n).next.ptr)) c.join.ensures.relinked.block
    ∙ ap (λ (w : Wires). joined w x (node_index base (out-Node n).next.ptr)) c.join.ensures.wires
    ∙ ap (joined (joined old a x) x) (next_read base nodes.items a n c.requires.front.inside c.at.ensures)

pub returns-clause-relinked : goal.returns-clause-relinked
returns-clause-relinked c = relinked_twice _ _ _ _ _ _ c.join.ensures.relinked c.join-2.ensures.relinked
