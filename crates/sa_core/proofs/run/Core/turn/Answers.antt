use Rattle.std.proofs.Common.{◌+◌, ◌<◌, sym, ap, subst, ◌∙◌, arith}
use Rattle.sa_core_model.specs.Machine.{Machine}
use Rattle.sa_core_model.specs.Run.{IsTurn}
use Rattle.sa_machine.specs.View.{machine_of}
use Rattle.sa_core.specs.View.{CoreView}
use Rattle.sa_core.proofs.CoreLemmas.{ready, kept-turn}
use Rattle.sa_core.proofs.run.Core.turn.Goals as goal

pub invariant_of-self : goal.invariant_of-self
invariant_of-self g c =
    let keep = (g.met.U.UserLevel g.world.𝓛 g.world.𝓜 g.world.𝓡 ((λ s x. x), (λ x. x), (λ x. x), λ x. x)).keeps in
    let f = g.U.UserLevel.calls in
    let k = c.self.inside in
    let is = ready f g.U.UserLevel.stands k.machine c.make_room.new.self c.args.self.now k.budget k.spare c.self.view_is c.make_room.ensures.machine
    c.make_room.ensures.budget
    c.requires.not_ended c.self.invariant in
    let within = subst (λ (z : Machine g.row.U.Denot g.row.U-Ctx.Denot). c.args.p.0 < z.workload.processors) (sym is.same) c.requires.within in
    let spare = ap (λ (v : CoreView g.row.U.Denot g.row.U-Ctx.Denot). v.spare) c.self.view_is in
    let room = c.in_ok-make_room.ensures.ok in
    let done = kept-turn f g.U.UserLevel.stands keep k.machine c.turn.new.machine c.args.p k.budget k.spare c.self.invariant c.turn.ensures.machine
    c.turn.ensures.spends within is.left
    (omega (arith, spare, room)) in
    done.kept

pub returns-clause-ok : goal.returns-clause-ok
returns-clause-ok g c =
    let keep = (g.met.U.UserLevel g.world.𝓛 g.world.𝓜 g.world.𝓡 ((λ s x. x), (λ x. x), (λ x. x), λ x. x)).keeps in
    let f = g.U.UserLevel.calls in
    let k = c.self.inside in
    let is = ready f g.U.UserLevel.stands k.machine c.make_room.new.self c.args.self.now k.budget k.spare c.self.view_is c.make_room.ensures.machine
    c.make_room.ensures.budget
    c.requires.not_ended c.self.invariant in
    let within = subst (λ (z : Machine g.row.U.Denot g.row.U-Ctx.Denot). c.args.p.0 < z.workload.processors) (sym is.same) c.requires.within in
    let spare = ap (λ (v : CoreView g.row.U.Denot g.row.U-Ctx.Denot). v.spare) c.self.view_is in
    let room = c.in_ok-make_room.ensures.ok in
    let done = kept-turn f g.U.UserLevel.stands keep k.machine c.turn.new.machine c.args.p k.budget k.spare c.self.invariant c.turn.ensures.machine
    c.turn.ensures.spends within is.left
    (omega (arith, spare, room)) in
    subst (λ (z : Machine g.row.U.Denot g.row.U-Ctx.Denot). IsTurn f z c.args.p (machine_of c.turn.new.machine)) is.same done.turn

pub returns-clause-event : goal.returns-clause-event
returns-clause-event g c =
    let keep = (g.met.U.UserLevel g.world.𝓛 g.world.𝓜 g.world.𝓡 ((λ s x. x), (λ x. x), (λ x. x), λ x. x)).keeps in
    let f = g.U.UserLevel.calls in
    let k = c.self.inside in
    let is = ready f g.U.UserLevel.stands k.machine c.make_room.new.self c.args.self.now k.budget k.spare c.self.view_is c.make_room.ensures.machine
    c.make_room.ensures.budget
    c.requires.not_ended c.self.invariant in
    let within = subst (λ (z : Machine g.row.U.Denot g.row.U-Ctx.Denot). c.args.p.0 < z.workload.processors) (sym is.same) c.requires.within in
    let spare = ap (λ (v : CoreView g.row.U.Denot g.row.U-Ctx.Denot). v.spare) c.self.view_is in
    let room = c.in_ok-make_room.ensures.ok in
    let done = kept-turn f g.U.UserLevel.stands keep k.machine c.turn.new.machine c.args.p k.budget k.spare c.self.invariant c.turn.ensures.machine
    c.turn.ensures.spends within is.left
    (omega (arith, spare, room)) in
    done.event ∙ ap (λ (z : Machine g.row.U.Denot g.row.U-Ctx.Denot). z.event + 1) is.same

pub returns-clause-workload : goal.returns-clause-workload
returns-clause-workload g c =
    let keep = (g.met.U.UserLevel g.world.𝓛 g.world.𝓜 g.world.𝓡 ((λ s x. x), (λ x. x), (λ x. x), λ x. x)).keeps in
    let f = g.U.UserLevel.calls in
    let k = c.self.inside in
    let is = ready f g.U.UserLevel.stands k.machine c.make_room.new.self c.args.self.now k.budget k.spare c.self.view_is c.make_room.ensures.machine
    c.make_room.ensures.budget
    c.requires.not_ended c.self.invariant in
    let within = subst (λ (z : Machine g.row.U.Denot g.row.U-Ctx.Denot). c.args.p.0 < z.workload.processors) (sym is.same) c.requires.within in
    let spare = ap (λ (v : CoreView g.row.U.Denot g.row.U-Ctx.Denot). v.spare) c.self.view_is in
    let room = c.in_ok-make_room.ensures.ok in
    let done = kept-turn f g.U.UserLevel.stands keep k.machine c.turn.new.machine c.args.p k.budget k.spare c.self.invariant c.turn.ensures.machine
    c.turn.ensures.spends within is.left
    (omega (arith, spare, room)) in
    done.workload ∙ ap (λ (z : Machine g.row.U.Denot g.row.U-Ctx.Denot). z.workload) is.same
