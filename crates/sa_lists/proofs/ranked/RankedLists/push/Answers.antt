use Rattle.std.proofs.Common.{◌+◌, ◌*◌, ◌∷◌, ◌<◌, ◌≤◌, true, length, sym, ap, ◌∙◌, subst, arith}
use Rattle.sa_links.specs.Lists.{list_at, count_in_all, with_list}
use Rattle.sa_lists.specs.declared.ranks.Ranks.{Ranks}
use Rattle.sa_lists.specs.declared.ranks.Ranks.TheVariants.{One, Many}
use Rattle.sa_lists.specs.declared.ranks.TheConstants.{MAX_RANKS}
use Rattle.sa_lists.specs.ReadyView.{rank_of}
use Rattle.sa_lists.specs.Chains.{width_of, IsNoted}
use Rattle.sa_lists.proofs.Storage.{inside, count-is, chain-inside, pushed-stored, pushed-value}
use Rattle.sa_lists.proofs.ranked.RankedLists.push.Goals as goal

pub push_front-requires-clause-list : goal.push_front-requires-clause-list
push_front-requires-clause-list c =
    let s = c.self.inside in
    let here = inside s.kind s.chains s.filled.items s.ranks.items c.self.invariant c.args.self.now c.self.view_is c.args.list c.requires.list in
    let rank = c.rank_of-rank.ensures ∙ ap (λ rs. rank_of rs c.args.t) c.as_slice.ensures.value in
    let small = subst (λ n. n < width_of s.kind) (sym rank) (c.self.invariant.below c.args.t) in
    subst (λ n. n < length s.chains.lists) (sym c.chain_of.ensures)
    (chain-inside s.kind s.chains s.filled.items s.ranks.items c.self.invariant c.args.self.now c.self.view_is c.args.list c.rank_of-rank.result here small)

pub push_front-requires-clause-free : goal.push_front-requires-clause-free
push_front-requires-clause-free c =
    let s = c.self.inside in
    ap (λ n. count_in_all n s.chains.lists) c.from.ensures
    ∙ sym (count-is s.kind s.chains s.filled.items s.ranks.items c.self.invariant c.args.self.now c.self.view_is c.args.t) ∙ c.requires.free

pub note-requires-clause-list : goal.note-requires-clause-list
note-requires-clause-list c =
    let s = c.self.inside in
    inside s.kind s.chains s.filled.items s.ranks.items c.self.invariant c.args.self.now c.self.view_is c.args.list c.requires.list

pub note-requires-clause-rank : goal.note-requires-clause-rank
note-requires-clause-rank c =
    let s = c.self.inside in
    let rank = c.rank_of-rank.ensures ∙ ap (λ rs. rank_of rs c.args.t) c.as_slice.ensures.value in
    let wide = widest s.kind in
    let small = subst (λ n. n < width_of s.kind) (sym rank) (c.self.invariant.below c.args.t) in
    omega arith
  where
    widest : (kind : Ranks) → width_of kind ≤ MAX_RANKS
    widest One = omega arith
    widest Many = omega arith

pub invariant_of-self : goal.invariant_of-self
invariant_of-self c =
    let s = c.self.inside in
    let now = c.args.self.now in
    let here = inside s.kind s.chains s.filled.items s.ranks.items c.self.invariant now c.self.view_is c.args.list c.requires.list in
    let rank = c.rank_of-rank.ensures ∙ ap (λ rs. rank_of rs c.args.t) c.as_slice.ensures.value in
    pushed-stored s.kind s.chains s.filled.items s.ranks.items c.self.invariant now c.self.view_is c.args.list here c.args.t
    c.push_front.new.self c.chain_of.result (c.chain_of.ensures ∙ ap (λ n. c.args.list * width_of s.kind + n) rank)
    (c.push_front.ensures ∙ ap (λ n. with_list s.chains c.chain_of.result (n ∷ list_at s.chains.lists c.chain_of.result)) c.from.ensures)
    c.note.new.filled.items (subst (λ n. IsNoted s.filled.items c.args.list n true c.note.new.filled.items) rank c.note.ensures)

pub returns : goal.returns
returns c =
    let s = c.self.inside in
    let now = c.args.self.now in
    let here = inside s.kind s.chains s.filled.items s.ranks.items c.self.invariant now c.self.view_is c.args.list c.requires.list in
    let rank = c.rank_of-rank.ensures ∙ ap (λ rs. rank_of rs c.args.t) c.as_slice.ensures.value in
    pushed-value s.kind s.chains s.filled.items s.ranks.items c.self.invariant now c.self.view_is c.args.list here c.args.t
    c.push_front.new.self c.chain_of.result (c.chain_of.ensures ∙ ap (λ n. c.args.list * width_of s.kind + n) rank)
    (c.push_front.ensures ∙ ap (λ n. with_list s.chains c.chain_of.result (n ∷ list_at s.chains.lists c.chain_of.result)) c.from.ensures)
    c.note.new.filled.items (subst (λ n. IsNoted s.filled.items c.args.list n true c.note.new.filled.items) rank c.note.ensures)
