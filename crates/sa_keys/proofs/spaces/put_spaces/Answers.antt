use Rattle.sa_core.specs.View.{machine}
use Rattle.sa_outlook.specs.Outlook.{outlook}
use Rattle.sa_keys.specs.Key.{space_key}
use Rattle.sa_keys.proofs.Appends.{range-step}
use Rattle.sa_keys.proofs.spaces.put_spaces.Goals as goal

pub loop-s-preserved : goal.loop-s-preserved
loop-s-preserved g c =
    range-step (space_key g.U.Keyed.context_key (outlook g.U.Keyed.plain (machine c.args.core.now))) c.args.key.now.items c.loop-s.key.items
    c.put_space_of.new.key.items c.loop-s.s c.loop-s.invariant c.in_ok-put_space_of.ensures
