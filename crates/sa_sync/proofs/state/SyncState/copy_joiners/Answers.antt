use Rattle.std.proofs.Common.{◌++◌, ap, sym, arith, ◌∙◌}
use Rattle.std.proofs.lemmas.Result.{on_ok_weaker}
use Rattle.sa_links.specs.Lists.{list_at}
use Rattle.sa_sync.proofs.Steps.{joiners_read}
use Rattle.sa_sync.proofs.state.SyncState.copy_joiners.Goals as goal

pub copy_list-requires : goal.copy_list-requires
copy_list-requires c = let all = c.self.invariant.queues in omega arith

pub returns : goal.returns
returns c =
    let queue = joiners_read c.self.inside c.args.self.now c.self.view_is c.self.invariant c.args.t.0 c.requires in
    let there = ap (list_at c.self.inside.queues.lists) c.from.ensures in
    on_ok_weaker c.copy_list.result (λ e. e ∙ ap (λ z. c.args.out.now.items ++ z) (there ∙ sym queue)) c.copy_list.ensures
