use Rattle.std.proofs.Common.{arith}
use Rattle.std.proofs.lemmas.Grind.{common_steps}
use Rattle.sa_core.proofs.CoreLemmas.{kept-room}
use Rattle.sa_core.proofs.run.Core.reserve.Goals as goal

pub invariant_of-self : goal.invariant_of-self
invariant_of-self g c =
    let keep = (g.met.U.UserLevel g.world.𝓛 g.world.𝓜 g.world.𝓡 ((λ s x. x), (λ x. x), (λ x. x), λ x. x)).keeps in
    let k = c.self.inside in
    kept-room g.U.UserLevel.calls g.U.UserLevel.stands keep k.machine c.reserve.new.self k.budget k.spare k.spare c.self.invariant
    c.reserve.ensures.machine c.reserve.ensures.last (c.reserve.ensures.grows k.spare c.self.invariant.room)

pub reserve-requires : goal.reserve-requires
reserve-requires g c = grind (arith, common_steps)

pub returns-in_err-reserve-clause-ok : goal.returns-in_err-reserve-clause-ok
returns-in_err-reserve-clause-ok g c = grind (arith, common_steps)

pub returns-in_err-reserve-clause-grows : goal.returns-in_err-reserve-clause-grows
returns-in_err-reserve-clause-grows g c = grind (arith, common_steps)

pub returns-in_err-reserve-clause-machine : goal.returns-in_err-reserve-clause-machine
returns-in_err-reserve-clause-machine g c = grind (arith, common_steps)

pub returns-in_err-reserve-clause-budget : goal.returns-in_err-reserve-clause-budget
returns-in_err-reserve-clause-budget g c = grind (arith, common_steps)

pub returns-in_err-reserve-clause-err : goal.returns-in_err-reserve-clause-err
returns-in_err-reserve-clause-err g c = grind (arith, common_steps)

pub invariant_of-self-then-self-events : goal.invariant_of-self-then-self-events
invariant_of-self-then-self-events g c = grind (arith, common_steps)

pub returns-in_ok-reserve-clause-ok : goal.returns-in_ok-reserve-clause-ok
returns-in_ok-reserve-clause-ok g c = grind (arith, common_steps)

pub returns-in_ok-reserve-clause-grows : goal.returns-in_ok-reserve-clause-grows
returns-in_ok-reserve-clause-grows g c = grind (arith, common_steps)

pub returns-in_ok-reserve-clause-machine : goal.returns-in_ok-reserve-clause-machine
returns-in_ok-reserve-clause-machine g c = grind (arith, common_steps)

pub returns-in_ok-reserve-clause-budget : goal.returns-in_ok-reserve-clause-budget
returns-in_ok-reserve-clause-budget g c = grind (arith, common_steps)

pub returns-in_ok-reserve-clause-err : goal.returns-in_ok-reserve-clause-err
returns-in_ok-reserve-clause-err g c = grind (arith, common_steps)

pub returns-else-self-events-clause-ok : goal.returns-else-self-events-clause-ok
returns-else-self-events-clause-ok g c = grind (arith, common_steps)

pub returns-else-self-events-clause-grows : goal.returns-else-self-events-clause-grows
returns-else-self-events-clause-grows g c = grind (arith, common_steps)

pub returns-else-self-events-clause-machine : goal.returns-else-self-events-clause-machine
returns-else-self-events-clause-machine g c = grind (arith, common_steps)

pub returns-else-self-events-clause-budget : goal.returns-else-self-events-clause-budget
returns-else-self-events-clause-budget g c = grind (arith, common_steps)

pub returns-else-self-events-clause-err : goal.returns-else-self-events-clause-err
returns-else-self-events-clause-err g c = grind (arith, common_steps)
