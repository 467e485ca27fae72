use Rattle.std.proofs.Common.{refl, sym, arith, subst}
use Rattle.std.specs.Vec.{vec_ptr}
use Rattle.sa_links.specs.Lists.{IsFree, list_at, with_list, without}
use Rattle.sa_links.specs.Rings.{IsRings}
use Rattle.sa_links.specs.Wiring.{wires_of}
use Rattle.sa_links.proofs.LinksSteps.{links_after, rings_are, size_is, stands_below, unlinked, unlinked_freed, view_after}
use Rattle.sa_links.proofs.links.Links.unlink.Goals as goal

pub slot_of-slot-requires-clause-inside : goal.slot_of-slot-requires-clause-inside
slot_of-slot-requires-clause-inside c =
    let base = vec_ptr c.self.inside.nodes in let nodes = c.self.inside.nodes.items in let count = c.self.inside.count in let v = c.args.self.now in
    let below = stands_below (wires_of base nodes) (wires_of base nodes) v c.args.list c.args.node 0
    (rings_are base nodes count v c.self.view_is c.self.invariant) c.requires.list c.requires.stands in
    let size = size_is base nodes count v c.self.view_is c.self.invariant in
    omega arith

changed : (c : goal.After-remove)
    → IsRings (wires_of (vec_ptr c.remove.new.nodes) c.remove.new.nodes.items)
    (with_list c.args.self.now c.args.list (without c.args.node (list_at c.args.self.now.lists c.args.list)))
changed c =
    let base = vec_ptr c.self.inside.nodes in let nodes = c.self.inside.nodes.items in let count = c.self.inside.count in let v = c.args.self.now in
    unlinked (wires_of base nodes) _ v c.args.list c.args.node _
    (rings_are base nodes count v c.self.view_is c.self.invariant) c.requires.list c.requires.stands c.slot_of-slot.ensures.index c.remove.ensures.wires

pub invariant_of-self : goal.invariant_of-self
invariant_of-self c =
    links_after (vec_ptr c.self.inside.nodes) c.self.inside.nodes.items c.self.inside.count c.args.self.now c.self.view_is c.self.invariant
    _ _ _ c.remove.ensures.relinked (changed c) refl

pub returns-clause-lists : goal.returns-clause-lists
returns-clause-lists c =
    view_after (vec_ptr c.self.inside.nodes) c.self.inside.nodes.items c.self.inside.count c.args.self.now c.self.view_is c.self.invariant
    _ _ _ c.remove.ensures.relinked (changed c) refl

pub returns-clause-free : goal.returns-clause-free
returns-clause-free c =
    let base = vec_ptr c.self.inside.nodes in let nodes = c.self.inside.nodes.items in let count = c.self.inside.count in let v = c.args.self.now in
    subst (λ u. IsFree u c.args.node)
    (sym (view_after (vec_ptr c.self.inside.nodes) c.self.inside.nodes.items c.self.inside.count c.args.self.now c.self.view_is c.self.invariant
    _ _ _ c.remove.ensures.relinked (changed c) refl))
    (unlinked_freed (wires_of base nodes) (wires_of base nodes) v c.args.list c.args.node 0
    (rings_are base nodes count v c.self.view_is c.self.invariant) c.requires.list c.requires.stands)
