use Rattle.std.proofs.Common.{◌-◌, length, take, slice_get, slice_set, sym, ap, ◌∙◌}
use Rattle.sa_links.specs.Lists.{Lists, list_at, with_list}
use Rattle.sa_lists.specs.Chains.{width_of, joined, chains_of}
use Rattle.sa_lists.proofs.Storage.{inside, has-small, empty, last-is, popped-stored, popped-value, chain-there, chain-after, thread-below, same-without, fewer-take}
use Rattle.sa_lists.proofs.ranked.RankedLists.pop_last.Goals as goal

pub least-requires : goal.least-requires
least-requires c =
    let s = c.self.inside in
    inside s.kind s.chains s.filled.items s.ranks.items c.self.invariant c.args.self.now c.self.view_is c.args.list c.requires

pub returns-in_err-rank-clause-last : goal.returns-in_err-rank-clause-last
returns-in_err-rank-clause-last c =
    let s = c.self.inside in
    let now = c.args.self.now in
    let l = c.args.list in
    let here = inside s.kind s.chains s.filled.items s.ranks.items c.self.invariant now c.self.view_is l c.requires in
    let none = empty s.kind s.chains s.filled.items s.ranks.items c.self.invariant now c.self.view_is l here c.in_err-rank.ensures in
    c.from_residual.ensures ∙ sym (ap (λ xs. slice_get xs (length xs - 1)) none)

pub returns-in_err-rank-clause-lists : goal.returns-in_err-rank-clause-lists
returns-in_err-rank-clause-lists c =
    let s = c.self.inside in
    let now = c.args.self.now in
    let l = c.args.list in
    let here = inside s.kind s.chains s.filled.items s.ranks.items c.self.invariant now c.self.view_is l c.requires in
    let none = empty s.kind s.chains s.filled.items s.ranks.items c.self.invariant now c.self.view_is l here c.in_err-rank.ensures in
    same-without now l (take (length (list_at now.lists.lists l) - 1) (list_at now.lists.lists l)) (ap (λ xs. take (length xs - 1) xs) none ∙ sym none)

pub invariant_of-self : goal.invariant_of-self
invariant_of-self c =
    let s = c.self.inside in
    let now = c.args.self.now in
    let l = c.args.list in
    let here = inside s.kind s.chains s.filled.items s.ranks.items c.self.invariant now c.self.view_is l c.requires in
    let found = c.in_ok-rank.ensures in
    let chain = list_at s.chains.lists c.chain_of-chain.result in
    popped-stored s.kind s.chains s.filled.items s.ranks.items c.self.invariant now c.self.view_is l here c.in_ok-rank.rank
    (has-small s.kind s.chains s.filled.items s.ranks.items c.self.invariant now c.self.view_is l here c.in_ok-rank.rank found.1)
    (take (length chain - 1) chain) c.pop_back-thread.new.self c.chain_of-chain.result c.chain_of-chain.ensures
    (λ t. fewer-take t (length chain - 1) chain) c.pop_back-thread.ensures.lists
    c.is_empty-has_more.result c.is_empty-has_more.ensures c.note.new.filled.items c.note.ensures

pub returns-clause-last : goal.returns-clause-last
returns-clause-last c =
    let s = c.self.inside in
    let now = c.args.self.now in
    let l = c.args.list in
    let here = inside s.kind s.chains s.filled.items s.ranks.items c.self.invariant now c.self.view_is l c.requires in
    let is = last-is s.kind s.chains s.filled.items s.ranks.items c.self.invariant now c.self.view_is l here c.in_ok-rank.rank c.in_ok-rank.ensures in
    c.pop_back-thread.ensures.last ∙ ap (λ n. let xs = list_at s.chains.lists n in slice_get xs (length xs - 1)) c.chain_of-chain.ensures ∙ sym is.0

pub returns-clause-lists : goal.returns-clause-lists
returns-clause-lists c =
    let s = c.self.inside in
    let now = c.args.self.now in
    let l = c.args.list in
    let here = inside s.kind s.chains s.filled.items s.ranks.items c.self.invariant now c.self.view_is l c.requires in
    let found = c.in_ok-rank.ensures in
    let chain = list_at s.chains.lists c.chain_of-chain.result in
    let is = last-is s.kind s.chains s.filled.items s.ranks.items c.self.invariant now c.self.view_is l here c.in_ok-rank.rank found in
    let same = ap (λ n. let xs = list_at s.chains.lists n in take (length xs - 1) xs) c.chain_of-chain.ensures in
    popped-value s.kind s.chains s.filled.items s.ranks.items c.self.invariant now c.self.view_is l here c.in_ok-rank.rank
    (has-small s.kind s.chains s.filled.items s.ranks.items c.self.invariant now c.self.view_is l here c.in_ok-rank.rank found.1)
    (take (length chain - 1) chain) c.pop_back-thread.new.self c.chain_of-chain.result c.chain_of-chain.ensures
    (λ t. fewer-take t (length chain - 1) chain) c.pop_back-thread.ensures.lists
    c.is_empty-has_more.result c.is_empty-has_more.ensures c.note.new.filled.items c.note.ensures
    ∙ ap (λ xs. record now { lists = with_list now.lists l xs })
    (ap (λ xs. joined (slice_set (chains_of s.chains.lists (width_of s.kind) l) c.in_ok-rank.rank xs)) same ∙ sym is.1)

pub pop_back-thread-requires : goal.pop_back-thread-requires
pop_back-thread-requires c =
    let s = c.self.inside in
    let now = c.args.self.now in
    let l = c.args.list in
    let here = inside s.kind s.chains s.filled.items s.ranks.items c.self.invariant now c.self.view_is l c.requires in
    let small = has-small s.kind s.chains s.filled.items s.ranks.items c.self.invariant now c.self.view_is l here c.in_ok-rank.rank c.in_ok-rank.ensures.1 in
    chain-there s.kind s.chains s.filled.items s.ranks.items c.self.invariant now c.self.view_is l c.in_ok-rank.rank c.chain_of-chain.result here small c.chain_of-chain.ensures

pub is_empty-has_more-requires : goal.is_empty-has_more-requires
is_empty-has_more-requires c =
    let s = c.self.inside in
    let now = c.args.self.now in
    let l = c.args.list in
    let here = inside s.kind s.chains s.filled.items s.ranks.items c.self.invariant now c.self.view_is l c.requires in
    let small = has-small s.kind s.chains s.filled.items s.ranks.items c.self.invariant now c.self.view_is l here c.in_ok-rank.rank c.in_ok-rank.ensures.1 in
    chain-after s.kind s.chains s.filled.items s.ranks.items c.self.invariant now c.self.view_is l c.in_ok-rank.rank c.chain_of-chain.result _ c.pop_back-thread.new.self here small c.chain_of-chain.ensures c.pop_back-thread.ensures.lists

pub note-requires-clause-list : goal.note-requires-clause-list
note-requires-clause-list c =
    let s = c.self.inside in
    inside s.kind s.chains s.filled.items s.ranks.items c.self.invariant c.args.self.now c.self.view_is c.args.list c.requires

pub note-requires-clause-rank : goal.note-requires-clause-rank
note-requires-clause-rank c = c.in_ok-rank.ensures.0

pub returns-clause-thread : goal.returns-clause-thread
returns-clause-thread c =
    let s = c.self.inside in
    thread-below s.kind s.chains s.filled.items s.ranks.items c.self.invariant c.args.self.now c.self.view_is c.pop_back-thread.result
    c.pop_back-thread.new.self.nodes (ap (λ (x : Lists). x.nodes) c.pop_back-thread.ensures.lists) c.pop_back-thread.ensures.node
