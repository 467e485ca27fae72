use Rattle.std.proofs.Common.{sym, ap, ◌∙◌, arith}
use Rattle.sa_machine.specs.View.{machine_of}
use Rattle.sa_core_model.specs.Machine.{Machine}
use Rattle.sa_core_model.specs.Turn.{turned_now}
use Rattle.sa_machine.proofs.EnterLemmas.{next-of}
use Rattle.sa_core.proofs.event.turn.Goals as goal

pub turn_now-requires-clause-next : goal.turn_now-requires-clause-next
turn_now-requires-clause-next g c = λ κs k.
    let keep = (g.met.U.UserLevel g.world.𝓛 g.world.𝓜 g.world.𝓡 ((λ s x. x), (λ x. x), (λ x. x), λ x. x)).keeps in
    let f = g.U.UserLevel.calls in
    let stands = g.U.UserLevel.stands in
    let m = machine_of c.args.machine.now in
    let p = c.args.p in
    let few = c.requires.event in
    next-of f stands keep m (machine_of c.next.new.self) c.requires.between (omega (arith, few)) c.next.ensures.machine

pub returns-clause-machine : goal.returns-clause-machine
returns-clause-machine g c =
    let f = g.U.UserLevel.calls in
    let t = c.turn_now.ensures.machine in
    let is = c.next.ensures.machine in
    record {
      fresh = t.fresh;
      unused = ap (λ (z : Machine g.row.U.Denot g.row.U-Ctx.Denot). z.kernel.acts t.fresh.0) (sym is) ∙ t.unused;
      is = t.is ∙ ap (λ (z : Machine g.row.U.Denot g.row.U-Ctx.Denot). turned_now f c.args.p t.fresh z) is;
    }
