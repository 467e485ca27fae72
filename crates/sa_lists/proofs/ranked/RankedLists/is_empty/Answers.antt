use Rattle.sa_lists.proofs.Storage.{inside, empty-is}
use Rattle.sa_lists.proofs.ranked.RankedLists.is_empty.Goals as goal

pub greatest-requires : goal.greatest-requires
greatest-requires c =
    let s = c.self.inside in
    inside s.kind s.chains s.filled.items s.ranks.items c.self.invariant c.args.self.now c.self.view_is c.args.list c.requires

pub returns : goal.returns
returns c =
    let s = c.self.inside in
    let here = inside s.kind s.chains s.filled.items s.ranks.items c.self.invariant c.args.self.now c.self.view_is c.args.list c.requires in
    empty-is s.kind s.chains s.filled.items s.ranks.items c.self.invariant c.args.self.now c.self.view_is c.args.list here
    c.greatest.result c.is_none.result c.greatest.ensures c.is_none.ensures
