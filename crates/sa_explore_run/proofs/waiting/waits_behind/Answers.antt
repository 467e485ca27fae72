use Rattle.std.proofs.Common.{List, length, sym, subst, ◌∙◌}
use Rattle.sa_base.specs.declared.record.Item.{Item}
use Rattle.sa_laws.specs.State.{opening_state}
use Rattle.sa_debug.specs.Reached.{CanPlay}
use Rattle.sa_explore_run.proofs.Reaching.{lead-reaches}
use Rattle.sa_explore_run.proofs.waiting.waits_behind.Goals as goal

pub replayed-requires : goal.replayed-requires
replayed-requires g c =
    let history = c.in_ok-trace.ensures in
    subst (λ (items : List Item). CanPlay c.args.workload.now (opening_state c.args.workload.now) items) (sym (c.items.ensures ∙ history.is))
    (c.requires.playable.plays (length c.args.turns.now) history.machine
    (lead-reaches g.U.UserLevel.calls c.args.workload.now c.args.turns.now history.machine history.lead))
