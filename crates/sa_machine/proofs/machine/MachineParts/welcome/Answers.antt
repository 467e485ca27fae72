use Rattle.std.proofs.Common.{◌≡◌, Some, sym, ◌∙◌}
use Rattle.sa_kernel_model.specs.State.{owner_of}
use Rattle.sa_machine.specs.View.{machine_of}
use Rattle.sa_machine.proofs.EntryLemmas.{begun-so, user-so, welcomed-as}
use Rattle.sa_machine.proofs.machine.MachineParts.welcome.Goals as goal

pub tell-requires-clause-stands : goal.tell-requires-clause-stands
tell-requires-clause-stands g c = λ κs k.
    (begun-so g.U.UserLevel.calls g.U.UserLevel.stands c.args.p c.in-Some.s (machine_of c.args.self.now) (machine_of c.begin.new.self) c.requires
    (sym c.owner.ensures ∙ c.in-Some.is) c.begin.ensures.machine).standing

pub tell-requires-clause-owner : goal.tell-requires-clause-owner
tell-requires-clause-owner g c = λ κs k.
    (begun-so g.U.UserLevel.calls g.U.UserLevel.stands c.args.p c.in-Some.s (machine_of c.args.self.now) (machine_of c.begin.new.self) c.requires
    (sym c.owner.ensures ∙ c.in-Some.is) c.begin.ensures.machine).owner

pub tell-requires-clause-claimed : goal.tell-requires-clause-claimed
tell-requires-clause-claimed g c = λ κs k.
    (begun-so g.U.UserLevel.calls g.U.UserLevel.stands c.args.p c.in-Some.s (machine_of c.args.self.now) (machine_of c.begin.new.self) c.requires
    (sym c.owner.ensures ∙ c.in-Some.is) c.begin.ensures.machine).claimed

pub returns-clause-machine : goal.returns-clause-machine
returns-clause-machine g c =
    let f = g.U.UserLevel.calls in
    let m = machine_of c.args.self.now in
    let owner : owner_of m.kernel c.args.p ≡ Some c.in-Some.s = sym c.owner.ensures ∙ c.in-Some.is in
    welcomed-as f c.args.p c.in-Some.s m (machine_of c.begin.new.self) (machine_of c.tell.new.self) (machine_of c.respond.new.self) c.requires.user owner
    (user-so f g.U.UserLevel.stands c.args.p c.in-Some.s m c.requires owner) c.begin.ensures.machine c.tell.ensures.machine c.respond.ensures.machine
