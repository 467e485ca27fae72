use Rattle.std.proofs.Common.{slice_get, refl, sym, ap, ◌∙◌}
use Rattle.sa_links.specs.Lists.{list_at}
use Rattle.sa_lists.proofs.Storage.{inside, has-small, chain-there, thread-below, empty, first-is}
use Rattle.sa_lists.proofs.ranked.RankedLists.first.Goals as goal

pub greatest-requires : goal.greatest-requires
greatest-requires c =
    let s = c.self.inside in
    inside s.kind s.chains s.filled.items s.ranks.items c.self.invariant c.args.self.now c.self.view_is c.args.list c.requires

pub returns-in_err-rank-clause-first : goal.returns-in_err-rank-clause-first
returns-in_err-rank-clause-first c =
    let s = c.self.inside in
    let now = c.args.self.now in
    let l = c.args.list in
    let here = inside s.kind s.chains s.filled.items s.ranks.items c.self.invariant now c.self.view_is l c.requires in
    let none = empty s.kind s.chains s.filled.items s.ranks.items c.self.invariant now c.self.view_is l here c.in_err-rank.ensures in
    c.from_residual.ensures ∙ sym (ap (λ xs. slice_get xs 0) none)

pub returns-clause-first : goal.returns-clause-first
returns-clause-first c =
    let s = c.self.inside in
    let now = c.args.self.now in
    let l = c.args.list in
    let here = inside s.kind s.chains s.filled.items s.ranks.items c.self.invariant now c.self.view_is l c.requires in
    let is = first-is s.kind s.chains s.filled.items s.ranks.items c.self.invariant now c.self.view_is l here c.in_ok-rank.rank c.in_ok-rank.ensures in
    c.front.ensures.first ∙ ap (λ n. let xs = list_at s.chains.lists n in slice_get xs 0) c.chain_of.ensures ∙ sym is.0

pub front-requires : goal.front-requires
front-requires c =
    let s = c.self.inside in
    let now = c.args.self.now in
    let l = c.args.list in
    let here = inside s.kind s.chains s.filled.items s.ranks.items c.self.invariant now c.self.view_is l c.requires in
    let small = has-small s.kind s.chains s.filled.items s.ranks.items c.self.invariant now c.self.view_is l here c.in_ok-rank.rank c.in_ok-rank.ensures.1 in
    chain-there s.kind s.chains s.filled.items s.ranks.items c.self.invariant now c.self.view_is l c.in_ok-rank.rank c.chain_of.result here small c.chain_of.ensures

pub returns-clause-thread : goal.returns-clause-thread
returns-clause-thread c =
    let s = c.self.inside in
    thread-below s.kind s.chains s.filled.items s.ranks.items c.self.invariant c.args.self.now c.self.view_is c.front.result
    s.chains.nodes refl c.front.ensures.node
