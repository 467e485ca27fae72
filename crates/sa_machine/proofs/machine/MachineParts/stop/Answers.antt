use Rattle.std.proofs.Common.{◌≡◌, Some, sym, ◌∙◌}
use Rattle.sa_machine.specs.View.{machine_of}
use Rattle.sa_kernel_model.specs.State.{owner_of}
use Rattle.sa_machine.proofs.CallLemmas.{read-ctx, read-none, without-as, stopped-away, stopped-none, stopped-some, the-user, has-place, has-space}
use Rattle.sa_machine.proofs.machine.MachineParts.stop.Goals as goal

pub returns-in_err-s-clause-held : goal.returns-in_err-s-clause-held
returns-in_err-s-clause-held g c =
    c.from_residual.ensures ∙ stopped-away g.U.UserLevel.calls c.args.p (machine_of c.args.self.now) (sym c.owner.ensures ∙ c.in_err-s.was)

pub returns-in_err-s-clause-machine : goal.returns-in_err-s-clause-machine
returns-in_err-s-clause-machine g c =
    without-as c.args.p (machine_of c.args.self.now) c.from.result c.take-ctx.new.self c.from.ensures c.take-ctx.ensures.after

pub returns-in_err-ctx-clause-held : goal.returns-in_err-ctx-clause-held
returns-in_err-ctx-clause-held g c =
    let m = machine_of c.args.self.now in
    let p = c.args.p in
    let ctx = read-none m.contexts p.0 c.from.result c.index_mut.result.now c.from.ensures c.index_mut.ensures.value
    (sym c.take-ctx.ensures.value ∙ c.in_err-ctx.was) in
    c.from_residual-in_err-ctx.ensures ∙ stopped-none g.U.UserLevel.calls p m c.in_ok-s.s (sym c.owner.ensures ∙ c.in_ok-s.was) ctx

pub returns-in_err-ctx-clause-machine : goal.returns-in_err-ctx-clause-machine
returns-in_err-ctx-clause-machine g c =
    without-as c.args.p (machine_of c.args.self.now) c.from.result c.take-ctx.new.self c.from.ensures c.take-ctx.ensures.after

pub stopped-requires-clause-within : goal.stopped-requires-clause-within
stopped-requires-clause-within g c = λ κs k.
    let keep = (g.met.U.UserLevel g.world.𝓛 g.world.𝓜 g.world.𝓡 ((λ s x. x), (λ x. x), (λ x. x), λ x. x)).keeps in
    let st = c.requires.stands in
    has-space g.U.UserLevel.calls g.U.UserLevel.stands keep st.0 (machine_of c.args.self.now) c.args.p c.in_ok-s.s st.1 (sym c.owner.ensures ∙ c.in_ok-s.was)

pub returns-clause-held : goal.returns-clause-held
returns-clause-held g c =
    let keep = (g.met.U.UserLevel g.world.𝓛 g.world.𝓜 g.world.𝓡 ((λ s x. x), (λ x. x), (λ x. x), λ x. x)).keeps in
    let f = g.U.UserLevel.calls in
    let stands = g.U.UserLevel.stands in
    let m = machine_of c.args.self.now in
    let p = c.args.p in
    let s = c.in_ok-s.s in
    let st = c.requires.stands in
    let owner : owner_of m.kernel p ≡ Some s = sym c.owner.ensures ∙ c.in_ok-s.was in
    let place = has-place f stands keep st.0 m p s st.1 owner in
    let ctx = read-ctx m.contexts p.0 c.from.result c.index_mut.result.now c.in_ok-ctx.field-0 place c.from.ensures c.index_mut.ensures.value
    (sym c.take-ctx.ensures.value ∙ c.in_ok-ctx.was) in
    let user = the-user f stands keep st.0 m p s st.1 owner in
    stopped-some f p m s user.0 c.in_ok-ctx.field-0 c.stopped.result owner user.1 ctx (c.stopped.ensures user.0 user.1)

pub returns-clause-machine : goal.returns-clause-machine
returns-clause-machine g c =
    without-as c.args.p (machine_of c.args.self.now) c.from.result c.take-ctx.new.self c.from.ensures c.take-ctx.ensures.after
