use Rattle.std.proofs.Common.{◌≡◌, Option, Some, None, sym, ap, subst, ◌∙◌}
use Rattle.sa_machine.specs.View.{machine_of}
use Rattle.sa_base.specs.declared.number.SpaceNo.{SpaceNo}
use Rattle.sa_abstract.specs.declared.answer.Step.{Step}
use Rattle.sa_kernel_model.specs.State.{owner_of}
use Rattle.sa_kernel.specs.Kept.{KernelView, kernel_of}
use Rattle.sa_core_model.specs.Machine.{Machine}
use Rattle.sa_core_model.specs.Turn.{turned_owned}
use Rattle.sa_machine.specs.Needs.{Asks}
use Rattle.sa_machine.proofs.EventLemmas.{vacant}
use Rattle.sa_machine.proofs.EnterLemmas.{asks-stepped, turned-so}
use Rattle.sa_machine.proofs.machine.MachineParts.run.Goals as goal

pub returns-in_default-clause-machine : goal.returns-in_default-clause-machine
returns-in_default-clause-machine g c =
    let f = g.U.UserLevel.calls in
    let m = machine_of c.args.self.now in
    let free = vacant c.args.self.now.kernel.parts.acts in
    let off : owner_of m.kernel c.args.p ≡ None = sym c.owner.ensures ∙ c.in_default.is in
    record {
      fresh = free.0;
      unused = free.1;
      is = c.tick.ensures.machine ∙ sym (ap (λ (o : Option SpaceNo). turned_owned f c.args.p free.0 o m) off);
    }

pub answer-requires-clause-asks : goal.answer-requires-clause-asks
answer-requires-clause-asks g c = λ κs k.
    let keep = (g.met.U.UserLevel g.world.𝓛 g.world.𝓜 g.world.𝓡 ((λ s x. x), (λ x. x), (λ x. x), λ x. x)).keeps in
    let f = g.U.UserLevel.calls in
    let stands = g.U.UserLevel.stands in
    let m = machine_of c.args.self.now in
    let p = c.args.p in
    let owner : owner_of m.kernel p ≡ Some c.in-Some.s = sym c.owner.ensures ∙ c.in-Some.is in
    subst (λ (z : Machine g.row.U.Denot g.row.U-Ctx.Denot × Step). Asks stands p z.1 z.0) (sym c.step-asked.ensures.machine)
    (asks-stepped f stands keep m p c.in-Some.s c.requires.next owner c.requires.low)

pub returns-clause-machine : goal.returns-clause-machine
returns-clause-machine g c =
    let m = machine_of c.args.self.now in
    let owner : owner_of m.kernel c.args.p ≡ Some c.in-Some.s = sym c.owner.ensures ∙ c.in-Some.is in
    let done = c.step-asked.ensures in
    turned-so g.U.UserLevel.calls c.args.p c.in-Some.s m (machine_of c.step-asked.new.self) (machine_of c.answer.new.self) c.step-asked.result owner
    done.machine (ap (λ (k : KernelView g.row.U-Ctx.Denot). kernel_of k) done.kernel) c.answer.ensures.machine
