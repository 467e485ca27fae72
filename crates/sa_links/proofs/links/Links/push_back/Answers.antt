use Rattle.std.proofs.Common.{[], ◌∷◌, ◌++◌, refl, ◌∙◌}
use Rattle.std.specs.Vec.{vec_ptr}
use Rattle.sa_links.specs.Lists.{list_at, with_list}
use Rattle.sa_links.specs.Rings.{IsRings}
use Rattle.sa_links.specs.Wiring.{wires_of}
use Rattle.sa_links.proofs.LinksSteps.{rings_are, last_led, prev_read, pushed_back, links_after, view_after}
use Rattle.sa_links.proofs.links.Links.push_back.Goals as goal

changed : (c : goal.After-insert)
    → IsRings (wires_of (vec_ptr c.insert.new.nodes) c.insert.new.nodes.items)
    (with_list c.args.self.now c.args.list (list_at c.args.self.now.lists c.args.list ++ c.args.node ∷ []))
changed c =
    let base = vec_ptr c.self.inside.nodes in let nodes = c.self.inside.nodes.items in let count = c.self.inside.count in let v = c.args.self.now in
    pushed_back (wires_of base nodes) _ v c.args.list c.args.node _ _
    (rings_are base nodes count v c.self.view_is c.self.invariant) c.requires.list c.requires.node c.requires.free
    (prev_read base nodes _ c.at.result.now c.slot_of-head.ensures.slot.inside c.at.ensures
    ∙ last_led base nodes count v c.self.view_is c.self.invariant c.args.list c.requires.list _ c.slot_of-head.ensures.index)
    c.slot_of-slot.ensures.index c.insert.ensures.wires

pub invariant_of-self : goal.invariant_of-self
invariant_of-self c =
    links_after (vec_ptr c.self.inside.nodes) c.self.inside.nodes.items c.self.inside.count c.args.self.now c.self.view_is c.self.invariant
    _ _ _ c.insert.ensures.relinked (changed c) refl

pub returns : goal.returns
returns c =
    view_after (vec_ptr c.self.inside.nodes) c.self.inside.nodes.items c.self.inside.count c.args.self.now c.self.view_is c.self.invariant
    _ _ _ c.insert.ensures.relinked (changed c) refl
