use Rattle.std.proofs.Common.{length, ◌≡◌}
use Rattle.sa_share.specs.Rounds.{shares_of}
use Rattle.sa_kernel.specs.View.{state_of, scene_of}
use Rattle.sa_kernel_model.specs.Closing.{claims}
use Rattle.sa_kernel_model.proofs.parts.Closings.{first-fits, aims-is, sizes-aims}
use Rattle.sa_kernel.proofs.parts.Parts.aim.Goals as goal

pub reaim-requires-clause-first : goal.reaim-requires-clause-first
reaim-requires-clause-first g c =
    let k = state_of c.args.self.now in
    let is : c.deref.result.now ≡ claims k = cc in
    first-fits k c.first_space-first.result c.deref.result.now is c.first_space-first.ensures.within

pub returns-clause-exact : goal.returns-clause-exact
returns-clause-exact g c =
    let old = scene_of c.args.self.now c.args.trace.now in
    let is : c.deref.result.now ≡ claims old.state = cc in
    aims-is c.args.event c.args.p old c.reaim.new.self c.reaim.new.trace.items c.deref.result.now c.first_space-first.result is c.first_space-first.ensures.is
    c.reaim.ensures.assign c.reaim.ensures.items

pub returns-clause-sizes : goal.returns-clause-sizes
returns-clause-sizes g c =
    let k = state_of c.args.self.now in
    let cs = c.deref.result.now in
    sizes-aims k c.args.event (length cs)
    (shares_of (length k.assign.owners) c.first_space-first.result cs) c.reaim.new.self c.requires.sizes c.reaim.ensures.assign
