use Rattle.std.proofs.Common.{sym, ap, ◌∙◌}
use Rattle.sa_kernel.specs.Kept.{scene}
use Rattle.sa_core_model.specs.Machine.{Machine}
use Rattle.sa_machine.specs.View.{machine_of}
use Rattle.sa_machine.proofs.HintLemmas.{stands-entered, hinted-away, hinted-some, called-event, spends-entered}
use Rattle.sa_machine.proofs.machine.MachineParts.hint.Goals as goal

pub respond-requires-clause-stands : goal.respond-requires-clause-stands
respond-requires-clause-stands g c = λ κs k.
    let done = c.enter-given.ensures.exact in
    stands-entered c.args.p (machine_of c.args.self.now) c.args.entry (scene c.enter-given.new.self c.enter-given.new.trace) done.fresh done.scene
    g.U.UserLevel.stands c.args.self.now.events (c.requires.stands done.fresh done.unused)

pub returns-in-Some-clause-machine : goal.returns-in-Some-clause-machine
returns-in-Some-clause-machine g c =
    let done = c.enter-given.ensures.exact in
    record {
      fresh = done.fresh;
      unused = done.unused;
      is =
          hinted-some c.args.p (machine_of c.args.self.now) c.args.entry (scene c.enter-given.new.self c.enter-given.new.trace) done.fresh done.scene
          g.U.UserLevel.calls c.in-Some.s (machine_of c.respond.new.self) (sym c.owner.ensures ∙ c.in-Some.is) c.respond.ensures.machine;
    }

pub returns-in-Some-clause-spends : goal.returns-in-Some-clause-spends
returns-in-Some-clause-spends g c =
    let done = c.enter-given.ensures in
    let event = ap (λ (z : Machine g.row.U.Denot g.row.U-Ctx.Denot). z.event) c.respond.ensures.machine ∙ called-event _ c.args.p c.in-Some.s _ in
    spends-entered c.args.self.now c.respond.new.self c.enter-given.new.self c.enter-given.new.trace c.respond.ensures.kernel c.respond.ensures.trace event
    done.owed done.spare done.last

pub returns-in_default-clause-machine : goal.returns-in_default-clause-machine
returns-in_default-clause-machine g c =
    let done = c.enter-given.ensures.exact in
    record {
      fresh = done.fresh;
      unused = done.unused;
      is =
          hinted-away c.args.p (machine_of c.args.self.now) c.args.entry (scene c.enter-given.new.self c.enter-given.new.trace) done.fresh done.scene
          g.U.UserLevel.calls (sym c.owner.ensures ∙ c.in_default.is);
    }
