use Rattle.std.proofs.Common.{sym, ◌∙◌, subst}
use Rattle.sa_lists.specs.Chains.{IsRanked}
use Rattle.sa_lists.proofs.Storage.{count-is, free-chains, ranked-given}
use Rattle.sa_lists.proofs.ranked.RankedLists.set_rank.Goals as goal

pub invariant_of-self : goal.invariant_of-self
invariant_of-self c =
    let s = c.self.inside in
    let free = sym (count-is s.kind s.chains s.filled.items s.ranks.items c.self.invariant c.args.self.now c.self.view_is c.args.t) ∙ c.requires.free in
    subst (λ rs. IsRanked s.kind s.chains.lists s.filled.items rs) (sym c.give_rank.ensures)
    (ranked-given s.kind s.chains.lists s.filled.items s.ranks.items c.args.t c.args.rank c.self.invariant
    (free-chains s.kind s.chains.lists c.args.t free) c.requires.rank)
