use Rattle.std.proofs.Common.{arith}
use Rattle.sa_machine.specs.View.{machine_of}
use Rattle.sa_machine.proofs.EnterLemmas.{next-of}
use Rattle.sa_machine.proofs.machine.MachineParts.commit.Goals as goal

pub go-requires-clause-next : goal.go-requires-clause-next
go-requires-clause-next g c = λ κs k.
    let keep = (g.met.U.UserLevel g.world.𝓛 g.world.𝓜 g.world.𝓡 ((λ s x. x), (λ x. x), (λ x. x), λ x. x)).keeps in
    let f = g.U.UserLevel.calls in
    let stands = g.U.UserLevel.stands in
    let m = machine_of c.args.self.now in
    let p = c.args.p in
    let few = c.requires.event in
    let some = c.requires.some in
    next-of f stands keep m (machine_of c.next.new.self) c.requires.between (omega (arith, few, some)) c.next.ensures.machine
