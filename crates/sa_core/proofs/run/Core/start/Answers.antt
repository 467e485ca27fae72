use Rattle.sa_core.proofs.CoreLemmas.{kept-start}
use Rattle.sa_core.proofs.run.Core.start.Goals as goal

pub invariant_of-result : goal.invariant_of-result
invariant_of-result g c =
    let keep = (g.met.U.UserLevel g.world.𝓛 g.world.𝓜 g.world.𝓡 ((λ s x. x), (λ x. x), (λ x. x), λ x. x)).keeps in
    let opened = c.in_ok-machine.ensures in
    kept-start g.U.UserLevel.calls g.U.UserLevel.stands keep c.in_ok-machine.machine c.args.w c.args.budget c.ranges-2.ensures opened.opened opened.owed
    opened.last c.requires.few
