use Rattle.std.proofs.Common.{[], ◌≡◌, ◌+◌, length, replicate, sym, subst, ap, ◌∙◌}
use Rattle.std.specs.Vec.{vec_ptr}
use Rattle.sa_links.specs.Rings.{lists_of}
use Rattle.sa_links.specs.Wiring.{AreLinked, AreNumbered, IsLinks, wires_of}
use Rattle.sa_links.proofs.LinksSteps.{new_lists}
use Rattle.sa_links.proofs.links.Links.new.Goals as goal

made : (c : goal.After-close)
    → (lists_of (wires_of (vec_ptr c.close.new.nodes) c.close.new.nodes.items) c.args.nodes
    ≡ record { nodes = c.args.nodes; lists = replicate c.args.lists [] })
    × IsLinks c.begin_of-begin.result.ptr (vec_ptr c.close.new.nodes) c.close.new.nodes.items c.args.nodes
made c =
    let nodes = c.begin_of-begin.new.block in let same = sym c.begin_of-begin.ensures.block in
    new_lists c.begin_of-begin.result.ptr (vec_ptr nodes) (vec_ptr c.close.new.nodes) nodes.items c.close.new.nodes.items c.args.nodes c.args.lists
    (subst (λ ns. length ns.items ≡ c.args.nodes + c.args.lists) same c.in_ok-nodes.ensures.size)
    (subst (λ ns. AreNumbered c.args.nodes ns.items) same c.in_ok-nodes.ensures.numbered)
    (subst (λ ns. AreLinked (vec_ptr ns) ns.items) same c.in_ok-nodes.ensures.linked)
    (c.begin_of-begin.ensures.slot ∙ ap (λ ns. vec_ptr ns) same) c.close.ensures.relinked c.close.ensures.closed

pub invariant_of-result : goal.invariant_of-result
invariant_of-result c = (made c).1

pub returns : goal.returns
returns c = (made c).0
