use Rattle.std.proofs.Common.{Some, ◌<◌, ◌≤◌, length, sym, subst, ap, ◌∙◌, arith}
use Rattle.sa_base.specs.declared.limits.TheConstants.{MAX_THREADS}
use Rattle.sa_links.specs.Lists.{list_at, Lists}
use Rattle.sa_fast.specs.Work.{IsWork}
use Rattle.sa_fast.proofs.WorkLemmas.{named-renames, differs}
use Rattle.sa_fast.proofs.work.WorkLists.take_first.Goals as goal

pub invariant_of-self-in-Some : goal.invariant_of-self-in-Some
invariant_of-self-in-Some c =
    let chains = c.self.inside.chains in
    let l = c.from-list.result in
    let work : IsWork chains.lists (Some c.args.first) =
    subst (λ x. IsWork x (Some c.args.first)) (sym c.self.view_is) (subst (λ w. IsWork c.args.self.now w) c.requires.name c.requires.work) in
    let below : l < MAX_THREADS = omega (arith, work.0, c.from-list.ensures) in
    let some : 1 ≤ length (list_at chains.lists l) = subst (λ n. 1 ≤ length (list_at chains.lists n)) (sym c.from-list.ensures) work.1 in
    let nodes = ap (λ (x : Lists). x.nodes) c.pop_front.ensures.lists in
    let next_below : c.in-Some.next < MAX_THREADS = omega (arith, c.in-Some.ensures.node, nodes, c.self.invariant.nodes) in
    named-renames chains c.pop_front.new.self c.append.new.self l c.in-Some.next c.self.invariant below next_below
    (differs chains c.pop_front.new.self l c.in-Some.next c.pop_front.result c.self.invariant c.pop_front.ensures.first some c.pop_front.ensures.free
    c.in-Some.ensures.listed)
    c.pop_front.ensures.lists (sym c.front.ensures.first ∙ c.in-Some.is) c.append.ensures.lists
