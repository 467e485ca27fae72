use Rattle.std.proofs.Common.{◌∙◌, arith, ap, get_or, sym, subst}
use Rattle.std.proofs.lemmas.Option.{IfSome_then}
use Rattle.std.specs.Vec.{vec_ptr}
use Rattle.sa_links.specs.Lists.{IsNext}
use Rattle.sa_links.specs.Wiring.{node_index, number_at, wires_of}
use Rattle.sa_links.specs.declared.node.Node.{out-Node}
use Rattle.sa_links.proofs.LinksSteps.{count_is, next_inside, next_is, next_listed, next_read, number_read, rings_are, size_is}
use Rattle.sa_links.proofs.links.Links.after.Goals as goal

pub slot_of-here-requires-clause-inside : goal.slot_of-here-requires-clause-inside
slot_of-here-requires-clause-inside c =
    let base = vec_ptr c.self.inside.nodes in let nodes = c.self.inside.nodes.items in let count = c.self.inside.count in let v = c.args.self.now in
    let r = rings_are base nodes count v c.self.view_is c.self.invariant in let A = r.apart in let below = A.below c.args.node c.requires in
    let size = size_is base nodes count v c.self.view_is c.self.invariant in
    omega arith

pub returns-clause-next : goal.returns-clause-next
returns-clause-next c =
    let base = vec_ptr c.self.inside.nodes in let nodes = c.self.inside.nodes.items in let count = c.self.inside.count in let v = c.args.self.now in
    let i = node_index base (out-Node c.at.result.now).next.ptr in
    let slot = next_inside base nodes _ c.at.result.now c.self.invariant.linked c.slot_of-here.ensures.slot.inside c.at.ensures in
    let number = number_read count nodes i c.at-2.result.now c.self.invariant.numbered slot.inside c.at-2.ensures
    ∙ ap (λ k. number_at k i) (count_is base nodes count v c.self.view_is c.self.invariant) in
    let led = next_read base nodes _ c.at.result.now c.slot_of-here.ensures.slot.inside c.at.ensures
    ∙ ap (λ k. get_or (wires_of base nodes).next k 0) c.slot_of-here.ensures.index in
    subst (IsNext v c.args.node) (sym number) (next_is (wires_of base nodes) v c.args.node i (rings_are base nodes count v c.self.view_is c.self.invariant) led)

pub returns-clause-listed : goal.returns-clause-listed
returns-clause-listed c =
    next_listed (wires_of (vec_ptr c.self.inside.nodes) c.self.inside.nodes.items) c.args.self.now c.args.node _ c.requires (returns-clause-next c)

pub returns-clause-node : goal.returns-clause-node
returns-clause-node c =
    let rings = rings_are (vec_ptr c.self.inside.nodes) c.self.inside.nodes.items c.self.inside.count c.args.self.now c.self.view_is c.self.invariant in
    let apart = rings.apart in
    IfSome_then _ (returns-clause-listed c) (λ x listed. apart.below x listed)
