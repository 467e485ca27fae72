use Rattle.std.proofs.Common.{◌<◌, length, sym, ap, subst, ◌∙◌}
use Rattle.sa_asked.specs.Questions.{put_reply}
use Rattle.sa_core.specs.View.{CoreView, machine}
use Rattle.sa_core.proofs.AskLemmas.{machine-put, kept-put}
use Rattle.sa_core.proofs.run.Core.put.Goals as goal

pub invariant_of-self : goal.invariant_of-self
invariant_of-self g c =
    let keep = (g.met.U.UserLevel g.world.𝓛 g.world.𝓜 g.world.𝓡 ((λ s x. x), (λ x. x), (λ x. x), λ x. x)).keeps in
    let law = (g.met.U.Asked g.world.𝓛 g.world.𝓜 g.world.𝓡 ((λ s x. x), (λ x. x), (λ x. x), λ x. x)).keeps_replies in
    let k = c.self.inside in
    let within = subst (λ (v : CoreView g.row.U.Denot g.row.U-Ctx.Denot). c.args.s.0 < length (machine v).users) (sym c.self.view_is) c.requires in
    kept-put g.U.UserLevel.calls g.U.UserLevel.stands keep g.U.Asked.replies g.U.Asked.alike law k.machine c.args.s c.args.reply c.put.new.self within c.put.ensures
    k.budget k.spare c.self.invariant

pub returns-clause-machine : goal.returns-clause-machine
returns-clause-machine g c =
    let keep = (g.met.U.UserLevel g.world.𝓛 g.world.𝓜 g.world.𝓡 ((λ s x. x), (λ x. x), (λ x. x), λ x. x)).keeps in
    let law = (g.met.U.Asked g.world.𝓛 g.world.𝓜 g.world.𝓡 ((λ s x. x), (λ x. x), (λ x. x), λ x. x)).keeps_replies in
    let k = c.self.inside in
    let within = subst (λ (v : CoreView g.row.U.Denot g.row.U-Ctx.Denot). c.args.s.0 < length (machine v).users) (sym c.self.view_is) c.requires in
    machine-put g.U.UserLevel.calls g.U.UserLevel.stands keep g.U.Asked.replies g.U.Asked.alike law k.machine c.args.s c.args.reply c.put.new.self within c.put.ensures
    ∙ ap (λ (v : CoreView g.row.U.Denot g.row.U-Ctx.Denot). put_reply g.U.Asked.replies c.args.s c.args.reply (machine v)) c.self.view_is
