use Rattle.std.proofs.Common.{◌∙◌, ap, eqb, Some, get_or}
use Rattle.std.specs.Option.{option_eq}
use Rattle.std.specs.Vec.{vec_ptr}
use Rattle.sa_links.specs.Wiring.{node_index, number_at, wires_of}
use Rattle.sa_links.specs.declared.node.Node.{out-Node}
use Rattle.sa_links.proofs.LinksSteps.{count_is, free_is, next_inside, next_read, number_read, rings_are}
use Rattle.sa_links.proofs.links.Links.is_free.Goals as goal

pub returns : goal.returns
returns c =
    let base = vec_ptr c.self.inside.nodes in let nodes = c.self.inside.nodes.items in let count = c.self.inside.count in let v = c.args.self.now in
    let i = node_index base (out-Node c.at.result.now).next.ptr in
    let slot = next_inside base nodes _ c.at.result.now c.self.invariant.linked c.slot_of-slot.ensures.slot.inside c.at.ensures in
    let number = number_read count nodes i c.at-2.result.now c.self.invariant.numbered slot.inside c.at-2.ensures
    ∙ ap (λ k. number_at k i) (count_is
    (vec_ptr c.self.inside.nodes) c.self.inside.nodes.items c.self.inside.count c.args.self.now c.self.view_is c.self.invariant) in
    free_is (wires_of base nodes) v c.args.node i c.eq.result
    (rings_are (vec_ptr c.self.inside.nodes) c.self.inside.nodes.items c.self.inside.count c.args.self.now c.self.view_is c.self.invariant) c.requires
    (next_read base nodes _ c.at.result.now c.slot_of-slot.ensures.slot.inside c.at.ensures
    ∙ ap (λ k. get_or (wires_of base nodes).next k 0) c.slot_of-slot.ensures.index)
    (c.eq.ensures ∙ ap (λ o. option_eq eqb o (Some c.args.node)) number)
