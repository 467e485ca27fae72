use Rattle.std.proofs.Common.{length, arith}
use Rattle.sa_devices.specs.declared.kind.IoKind.TheVariants.{Plain, Page}
use Rattle.sa_devices.proofs.SoundLemmas.{IsKind-found, found}
use Rattle.sa_kernel.proofs.parts.Parts.complete.Goals as goal

pub come_back-requires-clause-space : goal.come_back-requires-clause-space
come_back-requires-clause-space g c =
    let ios = c.args.self.now.devices.ios.under_way in
    let kind = Plain c.in-Plain.s c.in-Plain.a in
    let within = IsKind-found c.args.io.0 (length c.args.self.now.demands.items) ios kind c.requires.kinds (found c.args.io.0 ios kind c.in-Plain.ensures.kind) in
    omega (arith, c.requires.sizes.untold, within)

pub come_back-requires-in-Page-clause-space : goal.come_back-requires-in-Page-clause-space
come_back-requires-in-Page-clause-space g c =
    let ios = c.args.self.now.devices.ios.under_way in
    let kind = Page c.in-Page.s c.in-Page.a c.in-Page.field-2 in
    let within = IsKind-found c.args.io.0 (length c.args.self.now.demands.items) ios kind c.requires.kinds (found c.args.io.0 ios kind c.in-Page.ensures.kind) in
    omega (arith, c.requires.sizes.untold, within.0)
