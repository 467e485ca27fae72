use Rattle.std.proofs.Common.{[], ◌++◌, not, refl, sym, subst, ap, ◌∙◌}
use Rattle.std.specs.Option.{is_some}
use Rattle.std.specs.Vec.{vec_ptr}
use Rattle.sa_links.specs.Lists.{HasSameCounts, list_at, with_list}
use Rattle.sa_links.specs.Rings.{IsRings}
use Rattle.sa_links.specs.Wiring.{IsRelinked, node_index, wires_of}
use Rattle.sa_links.specs.declared.node.Node.{out-Node}
use Rattle.sa_links.proofs.CallerLemmas.{counts_moved}
use Rattle.sa_links.proofs.Joining.{relinked_twice}
use Rattle.sa_links.proofs.LinksSteps.{first_led, front_read, head_is, last_led, links_after, moved, moved_none, next_read, prev_read, rings_are, view_after}
use Rattle.sa_links.proofs.links.Links.append.Goals as goal

pub returns-then-is_none-clause-lists : goal.returns-then-is_none-clause-lists
returns-then-is_none-clause-lists c =
    let read = front_read (vec_ptr c.self.inside.nodes) c.self.inside.nodes.items c.self.inside.count c.args.self.now c.self.view_is c.self.invariant
    c.args.from c.requires.from _ c.slot_of-emptied.ensures.index
    c.at.result.now c.at-2.result.now c.slot_of-emptied.ensures.slot.inside c.at.ensures c.at-2.ensures in
    moved_none c.args.self.now c.args.list c.args.from (sym (ap is_some read) ∙ c.is_none.ensures ∙ ap not c.if-is_none.true)

pub returns-then-is_none-clause-counts : goal.returns-then-is_none-clause-counts
returns-then-is_none-clause-counts c = λ x. refl

relinked : (c : goal.After-join-3) → IsRelinked (vec_ptr c.self.inside.nodes) c.self.inside.nodes.items (vec_ptr c.join-3.new.nodes) c.join-3.new.nodes.items
relinked c = relinked_twice _ _ _ _ _ _ c.join.ensures.relinked (relinked_twice _ _ _ _ _ _ c.join-2.ensures.relinked c.join-3.ensures.relinked)

changed : (c : goal.After-join-3) → IsRings (wires_of (vec_ptr c.join-3.new.nodes) c.join-3.new.nodes.items)
    (with_list (with_list c.args.self.now c.args.list (list_at c.args.self.now.lists c.args.list ++ list_at c.args.self.now.lists c.args.from)) c.args.from [])
changed c =
    let base = vec_ptr c.self.inside.nodes in let nodes = c.self.inside.nodes.items in let v = c.args.self.now in
    let read = front_read (vec_ptr c.self.inside.nodes) c.self.inside.nodes.items c.self.inside.count c.args.self.now c.self.view_is c.self.invariant
    c.args.from c.requires.from _ c.slot_of-emptied.ensures.index
    c.at.result.now c.at-2.result.now c.slot_of-emptied.ensures.slot.inside c.at.ensures c.at-2.ensures in
    let block₁ = c.join.ensures.relinked.block in let block₂ = c.join-2.ensures.relinked.block ∙ block₁ in
    moved (wires_of base nodes) _ _ _ v c.args.list c.args.from _ _ _ _ _
    (rings_are (vec_ptr c.self.inside.nodes) c.self.inside.nodes.items c.self.inside.count c.args.self.now c.self.view_is c.self.invariant) c.requires.differ
    c.requires.list c.requires.from
    (sym (ap is_some read) ∙ c.is_none.ensures ∙ ap not c.if-is_none.false)
    (prev_read base nodes _ c.at-4.result.now c.slot_of-head.ensures.slot.inside c.at-4.ensures
    ∙ last_led (vec_ptr c.self.inside.nodes) c.self.inside.nodes.items c.self.inside.count c.args.self.now c.self.view_is c.self.invariant c.args.list
    c.requires.list _ c.slot_of-head.ensures.index)
    (next_read base nodes _ c.at.result.now c.slot_of-emptied.ensures.slot.inside c.at.ensures
    ∙ first_led (vec_ptr c.self.inside.nodes) c.self.inside.nodes.items c.self.inside.count c.args.self.now c.self.view_is c.self.invariant c.args.from
    c.requires.from _ c.slot_of-emptied.ensures.index)
    (ap (λ z. node_index z (out-Node c.at-3.result.now).prev.ptr) block₁
    ∙ prev_read base nodes _ c.at-3.result.now c.slot_of-emptied.ensures.slot.inside c.at-3.ensures
    ∙ last_led (vec_ptr c.self.inside.nodes) c.self.inside.nodes.items c.self.inside.count c.args.self.now c.self.view_is c.self.invariant c.args.from
    c.requires.from _ c.slot_of-emptied.ensures.index)
    (ap (λ z. node_index z c.slot_of-head.result.ptr) block₁
    ∙ head_is (vec_ptr c.self.inside.nodes) c.self.inside.nodes.items c.self.inside.count c.args.self.now c.self.view_is c.self.invariant c.args.list
    c.requires.list _ c.slot_of-head.ensures.index)
    (ap (λ z. node_index z c.slot_of-emptied.result.ptr) block₂
    ∙ head_is (vec_ptr c.self.inside.nodes) c.self.inside.nodes.items c.self.inside.count c.args.self.now c.self.view_is c.self.invariant c.args.from
    c.requires.from _ c.slot_of-emptied.ensures.index)
    c.join.ensures.wires c.join-2.ensures.wires c.join-3.ensures.wires

pub invariant_of-self : goal.invariant_of-self
invariant_of-self c =
    links_after (vec_ptr c.self.inside.nodes) c.self.inside.nodes.items c.self.inside.count c.args.self.now c.self.view_is c.self.invariant _ _ _ (relinked c)
    (changed c) refl

pub returns-clause-lists : goal.returns-clause-lists
returns-clause-lists c =
    view_after (vec_ptr c.self.inside.nodes) c.self.inside.nodes.items c.self.inside.count c.args.self.now c.self.view_is c.self.invariant _ _ _ (relinked c)
    (changed c) refl

pub returns-clause-counts : goal.returns-clause-counts
returns-clause-counts c =
    subst (HasSameCounts c.args.self.now) (sym (returns-clause-lists c))
    (counts_moved c.args.self.now c.args.list c.args.from c.requires.differ c.requires.list c.requires.from)
