use Rattle.std.proofs.Common.{◌<◌, ◌≡◌, drop, slice_get, Some, refl, sym, ◌∙◌, subst}
use Rattle.std.specs.Vec.{vec_ptr}
use Rattle.sa_links.specs.Lists.{IsFree, list_at, with_list}
use Rattle.sa_links.specs.Rings.{IsRings}
use Rattle.sa_links.specs.Wiring.{wires_of}
use Rattle.sa_links.proofs.LinksSteps.{got_below, front_freed, front_read, first_led, links_after, none_first, popped_front, next_read, rings_are, view_after, with_same}
use Rattle.sa_links.proofs.links.Links.pop_front.Goals as goal

pub returns-in_err-number-clause-first : goal.returns-in_err-number-clause-first
returns-in_err-number-clause-first c =
    c.from_residual.ensures ∙ sym c.in_err-number.was
    ∙ front_read (vec_ptr c.self.inside.nodes) c.self.inside.nodes.items c.self.inside.count c.args.self.now c.self.view_is c.self.invariant c.args.list
    c.requires _ c.slot_of-head.ensures.index
    c.at.result.now c.at-2.result.now c.slot_of-head.ensures.slot.inside c.at.ensures c.at-2.ensures

pub returns-in_err-number-clause-lists : goal.returns-in_err-number-clause-lists
returns-in_err-number-clause-lists c =
    let xs = list_at c.args.self.now.lists c.args.list in
    sym (with_same c.args.self.now c.args.list _
    (none_first xs (sym c.in_err-number.was
    ∙ front_read (vec_ptr c.self.inside.nodes) c.self.inside.nodes.items c.self.inside.count c.args.self.now c.self.view_is c.self.invariant c.args.list
    c.requires _ c.slot_of-head.ensures.index
    c.at.result.now c.at-2.result.now c.slot_of-head.ensures.slot.inside c.at.ensures c.at-2.ensures)))

got : (c : goal.After-remove) → let xs = list_at c.args.self.now.lists c.args.list in slice_get xs 0 ≡ Some c.in_ok-number.number
got c =
    sym (sym c.in_ok-number.was ∙ front_read
    (vec_ptr c.self.inside.nodes) c.self.inside.nodes.items c.self.inside.count c.args.self.now c.self.view_is c.self.invariant c.args.list c.requires
    _ c.slot_of-head.ensures.index
    c.at.result.now c.at-2.result.now c.slot_of-head.ensures.slot.inside c.at.ensures c.at-2.ensures)

changed : (c : goal.After-remove) → let xs = list_at c.args.self.now.lists c.args.list in
    IsRings (wires_of (vec_ptr c.remove.new.nodes) c.remove.new.nodes.items) (with_list c.args.self.now c.args.list (drop 1 xs))
changed c =
    let base = vec_ptr c.self.inside.nodes in let nodes = c.self.inside.nodes.items in let count = c.self.inside.count in let v = c.args.self.now in
    popped_front (wires_of base nodes) _ v c.args.list c.in_ok-number.number _ (rings_are base nodes count v c.self.view_is c.self.invariant) c.requires (got c)
    (next_read base nodes _ c.at.result.now c.slot_of-head.ensures.slot.inside c.at.ensures
    ∙ first_led base nodes count v c.self.view_is c.self.invariant c.args.list c.requires _ c.slot_of-head.ensures.index)
    c.remove.ensures.wires

pub invariant_of-self : goal.invariant_of-self
invariant_of-self c =
    links_after (vec_ptr c.self.inside.nodes) c.self.inside.nodes.items c.self.inside.count c.args.self.now c.self.view_is c.self.invariant
    _ _ _ c.remove.ensures.relinked (changed c) refl

pub returns-clause-first : goal.returns-clause-first
returns-clause-first c = sym (got c)

pub returns-clause-lists : goal.returns-clause-lists
returns-clause-lists c =
    view_after (vec_ptr c.self.inside.nodes) c.self.inside.nodes.items c.self.inside.count c.args.self.now c.self.view_is c.self.invariant
    _ _ _ c.remove.ensures.relinked (changed c) refl

pub returns-clause-free : goal.returns-clause-free
returns-clause-free c =
    let base = vec_ptr c.self.inside.nodes in let nodes = c.self.inside.nodes.items in let count = c.self.inside.count in let v = c.args.self.now in
    subst (λ u. IsFree u c.in_ok-number.number)
    (sym (view_after (vec_ptr c.self.inside.nodes) c.self.inside.nodes.items c.self.inside.count c.args.self.now c.self.view_is c.self.invariant
    _ _ _ c.remove.ensures.relinked (changed c) refl))
    (front_freed (wires_of base nodes) (wires_of base nodes) v c.args.list c.in_ok-number.number 0
    (rings_are base nodes count v c.self.view_is c.self.invariant) c.requires (got c))

pub returns-clause-node : goal.returns-clause-node
returns-clause-node c =
    let base = vec_ptr c.self.inside.nodes in let nodes = c.self.inside.nodes.items in
    let view = view_after (vec_ptr c.self.inside.nodes) c.self.inside.nodes.items c.self.inside.count c.args.self.now c.self.view_is c.self.invariant
    _ _ _ c.remove.ensures.relinked (changed c) refl in
    subst (λ u. c.in_ok-number.number < u.nodes) (sym view)
    (got_below (wires_of base nodes) c.args.self.now c.args.list 0 c.in_ok-number.number
    (rings_are (vec_ptr c.self.inside.nodes) c.self.inside.nodes.items c.self.inside.count c.args.self.now c.self.view_is c.self.invariant) (got c))
