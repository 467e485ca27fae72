use Rattle.std.proofs.Common.{sym, ◌∙◌}
use Rattle.sa_kernel.specs.View.{state_of}
use Rattle.sa_kernel.proofs.FreshActivations.{running}
use Rattle.sa_kernel.proofs.parts.Parts.stop.Goals as goal

pub put_aside-requires-clause-running : goal.put_aside-requires-clause-running
put_aside-requires-clause-running g c =
    let k = state_of c.args.self.now in
    running k.assign.owners k.acts c.args.p.0 c.in-Some-life.a (c.requires.lives.run c.args.p.0 c.in-Some-life.a (sym c.life.ensures ∙ c.in-Some-life.is))
