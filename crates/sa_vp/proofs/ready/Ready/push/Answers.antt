use Rattle.sa_vp.proofs.Unlocked.{pushed-unlocked, pushed-seen}
use Rattle.sa_vp.proofs.ready.Ready.push.Goals as goal

pub invariant_of-self : goal.invariant_of-self
invariant_of-self c =
    pushed-unlocked c.self.inside.lists c.self.invariant c.args.l.0 c.args.t.0 c.try_lock-held.new.self c.push.new.self c.unlock.new.self
    c.try_lock-held.ensures.taken c.push.ensures c.unlock.ensures

pub returns : goal.returns
returns c =
    pushed-seen c.self.inside.lists c.self.invariant c.args.l.0 c.args.t.0 c.try_lock-held.new.self c.push.new.self c.unlock.new.self c.args.self.now
    c.self.view_is c.try_lock-held.ensures.taken c.push.ensures c.unlock.ensures
