use Rattle.std.proofs.Common.{◌+◌, length, ap, sym, subst, arith}
use Rattle.sa_lists.specs.ReadyView.{ReadyView, inserted, IsStored}
use Rattle.sa_links.specs.Lists.{list_at}
use Rattle.sa_lists.specs.Chains.{Ranked}
use Rattle.sa_lists.proofs.Changes.{length-inserted}
use Rattle.sa_lists.proofs.Storing.{sum_by-le-nodes, stored-with}
use Rattle.sa_lists.proofs.ready.ReadyLists.push.Goals as goal

pub overflow_add-self : goal.overflow_add-self
overflow_add-self c =
    let few = sum_by-le-nodes c.self.inside.lists.lists c.are_apart.ensures in
    omega arith

pub invariant_of-self : goal.invariant_of-self
invariant_of-self c =
    let s = c.self.inside in
    let old = list_at s.lists.lists.lists c.args.p.0 in
    subst (λ (r : Ranked). IsStored r.lists s.locked.items (s.ready + 1) s.made s.threads) (sym c.push.ensures)
    (stored-with s.lists.lists s.locked.items s.ready s.made s.threads c.args.p.0 (inserted s.lists.ranks c.args.t.0 old) (s.ready + 1) c.self.invariant
    (omega (arith, c.requires.list, ap (λ (r : ReadyView). length r.lists) c.self.view_is))
    (let more = length-inserted s.lists.ranks c.args.t.0 old in omega arith))
