use Rattle.sa_lists.proofs.Storage.{apart}
use Rattle.sa_lists.proofs.ranked.RankedLists.are_apart.Goals as goal

pub returns : goal.returns
returns c =
    let s = c.self.inside in
    apart s.kind s.chains s.filled.items s.ranks.items c.self.invariant c.args.self.now c.self.view_is c.are_apart.ensures
