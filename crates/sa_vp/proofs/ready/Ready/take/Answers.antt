use Rattle.sa_lists.specs.ReadyView.{list_of}
use Rattle.sa_vp_model.specs.Turn.{left_of}
use Rattle.sa_vp.proofs.Unlocked.{taken-unlocked}
use Rattle.sa_vp.proofs.ready.Ready.take.Goals as goal

pub invariant_of-self : goal.invariant_of-self
invariant_of-self c =
    taken-unlocked c.self.inside.lists c.self.invariant c.args.l.0
    (left_of (list_of c.try_lock-held.new.self c.args.l.0) c.args.own) c.try_lock-held.new.self c.pop-taken.new.lists c.unlock.new.self
    c.try_lock-held.ensures.taken c.pop-taken.ensures.lists c.unlock.ensures
