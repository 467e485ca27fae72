use Rattle.std.proofs.Common.{ap, sym, ◌∙◌, arith}
use Rattle.sa_links.specs.Lists.{list_at}
use Rattle.sa_sync.proofs.Steps.{joiners_read}
use Rattle.sa_sync.proofs.state.SyncState.has_no_joiners.Goals as goal

pub is_empty-requires : goal.is_empty-requires
is_empty-requires c = let all = c.self.invariant.queues in omega arith

pub returns : goal.returns
returns c =
    let queue = joiners_read c.self.inside c.args.self.now c.self.view_is c.self.invariant c.args.t.0 c.requires in
    let there = ap (list_at c.self.inside.queues.lists) c.from.ensures in
    (λ yes. queue ∙ sym there ∙ c.is_empty.ensures.0 yes, λ none. c.is_empty.ensures.1 (there ∙ sym queue ∙ none))
