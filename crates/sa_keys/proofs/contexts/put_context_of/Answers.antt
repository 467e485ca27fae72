use Rattle.std.proofs.Common.{◌≡◌, ◌++◌, Option, OnOk, sym, subst}
use Rattle.sa_spaces.specs.Space.{SpaceView}
use Rattle.sa_core_model.specs.Run.{setting}
use Rattle.sa_core_model.specs.Standing.{contexts_of}
use Rattle.sa_core.specs.View.{machine}
use Rattle.sa_keys.proofs.Standings.{level-of}
use Rattle.sa_keys.proofs.contexts.put_context_of.Goals as goal

pub returns : goal.returns
returns g c =
    let m = machine c.args.core.now in
    let s = c.args.s.0 in
    let level = level-of g.U.UserLevel.stands m c.keeps.ensures s c.user.result.now c.user.ensures in
    subst (λ (def : Option SpaceView). OnOk c.put_context.result (c.put_context.new.key.items
    ≡ c.args.key.now.items ++ g.U.Keyed.context_key (g.U.Keyed.plain def c.args.ctx.now))) (sym level.is)
    (c.put_context.ensures (setting m.workload s level.def) m.event (contexts_of m s) level.value)
