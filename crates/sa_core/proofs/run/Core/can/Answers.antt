use Rattle.std.proofs.Common.{sym, ap, ◌∙◌}
use Rattle.std.specs.Option.{option_copied}
use Rattle.sa_asked.specs.Questions.{steps_in, can_reply}
use Rattle.sa_core_model.specs.Machine.{context_on}
use Rattle.sa_machine.specs.View.{machine_of}
use Rattle.sa_core.specs.View.{CoreView, machine}
use Rattle.sa_core.proofs.AskLemmas.{can-here}
use Rattle.sa_core.proofs.run.Core.can.Goals as goal

pub returns : goal.returns
returns g c =
    let keep = (g.met.U.UserLevel g.world.𝓛 g.world.𝓜 g.world.𝓡 ((λ s x. x), (λ x. x), (λ x. x), λ x. x)).keeps in
    let law = (g.met.U.Asked g.world.𝓛 g.world.𝓜 g.world.𝓡 ((λ s x. x), (λ x. x), (λ x. x), λ x. x)).keeps_replies in
    let k = c.self.inside in
    let view = c.self.view_is in
    can-here g.U.UserLevel.calls g.U.UserLevel.stands keep g.U.Asked.replies g.U.Asked.alike law (machine_of k.machine) c.args.p c.in-Some.s
    c.in-Some-running.ctx.now c.seen-seen.result c.args.reply c.can.result c.self.invariant.between
    (ap (λ (v : CoreView g.row.U.Denot g.row.U-Ctx.Denot). steps_in (machine v) c.args.p) view ∙ sym c.steps_in.ensures ∙ c.in-Some.is)
    (ap (λ (v : CoreView g.row.U.Denot g.row.U-Ctx.Denot). context_on (machine v) c.args.p) view ∙ sym c.running.ensures
    ∙ ap option_copied c.in-Some-running.is)
    (c.seen-seen.ensures c.in-Some.s) c.can.ensures
    ∙ ap (λ (v : CoreView g.row.U.Denot g.row.U-Ctx.Denot). can_reply g.U.Asked.replies (machine v) c.args.p c.args.reply) view
