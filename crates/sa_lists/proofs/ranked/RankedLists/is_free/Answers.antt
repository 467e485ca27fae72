use Rattle.std.proofs.Common.{◌∙◌, sym, ap}
use Rattle.sa_links.specs.Lists.{count_in_all}
use Rattle.sa_lists.proofs.Storage.{count-is}
use Rattle.sa_lists.proofs.ranked.RankedLists.is_free.Goals as goal

pub returns : goal.returns
returns c =
    let s = c.self.inside in
    let counted = count-is s.kind s.chains s.filled.items s.ranks.items c.self.invariant c.args.self.now c.self.view_is c.args.t in
    let same = ap (λ n. count_in_all n s.chains.lists) c.from.ensures in
    (λ h. counted ∙ sym same ∙ c.is_free.ensures.0 h, λ h. c.is_free.ensures.1 (same ∙ sym counted ∙ h))
