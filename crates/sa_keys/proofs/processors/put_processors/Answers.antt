use Rattle.sa_core.specs.View.{machine}
use Rattle.sa_outlook.specs.Outlook.{outlook}
use Rattle.sa_keys.specs.Key.{processor_key}
use Rattle.sa_keys.proofs.Appends.{range-step}
use Rattle.sa_keys.proofs.processors.put_processors.Goals as goal

pub loop-p-preserved : goal.loop-p-preserved
loop-p-preserved g c =
    range-step (processor_key g.U.Keyed.context_key (outlook g.U.Keyed.plain (machine c.args.core.now))) c.args.key.now.items c.loop-p.key.items
    c.put_processor.new.key.items c.loop-p.p c.loop-p.invariant c.in_ok-put_processor.ensures
