use Rattle.std.proofs.Common.{◌∙◌, ap}
use Rattle.sa_kernel.specs.Kept.{kernel_of, scene}
use Rattle.sa_kernel_model.specs.Entries.{evicted_at}
use Rattle.tests_machine.proofs.PlainLemmas.{enter-lawful}
use Rattle.tests_machine.proofs.lawful.enter.Goals as goal

pub returns-clause-lawful : goal.returns-clause-lawful
returns-clause-lawful c =
    enter-lawful c.args.event c.args.p c.args.entry (kernel_of c.args.kernel.now) (kernel_of c.evict.new.self) c.args.trace.now.items c.reserve-2.new.self.items
    (scene c.enter.new.self c.enter.new.trace)
    c.reserve-2.ensures.items
    (c.evict.ensures.state ∙ ap (evicted_at c.args.event) c.reserve.ensures.state) c.requires.fetched c.requires.fit c.requires.plain c.enter.ensures.lawful
