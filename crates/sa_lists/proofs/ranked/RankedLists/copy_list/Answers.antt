use Rattle.std.proofs.Common.{◌++◌, ap, sym, ◌∙◌}
use Rattle.std.proofs.lemmas.Result.{on_ok_weaker}
use Rattle.sa_lists.proofs.Storage.{inside, list-joined, blocks_within}
use Rattle.sa_lists.proofs.ranked.RankedLists.copy_list.Goals as goal

pub copy_chains-requires : goal.copy_chains-requires
copy_chains-requires c =
    let s = c.self.inside in
    let here = inside s.kind s.chains s.filled.items s.ranks.items c.self.invariant c.args.self.now c.self.view_is c.args.list c.requires in
    blocks_within s.kind s.chains s.filled.items s.ranks.items c.self.invariant c.args.self.now c.self.view_is c.args.list here

pub returns : goal.returns
returns c =
    let s = c.self.inside in
    let here = inside s.kind s.chains s.filled.items s.ranks.items c.self.invariant c.args.self.now c.self.view_is c.args.list c.requires in
    let is = list-joined s.kind s.chains s.filled.items s.ranks.items c.self.invariant c.args.self.now c.self.view_is c.args.list here in
    on_ok_weaker c.copy_chains.result (λ e. e ∙ ap (λ z. c.args.out.now.items ++ z) (sym is)) c.copy_chains.ensures
