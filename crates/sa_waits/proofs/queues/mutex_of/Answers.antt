use Rattle.std.proofs.Common.{◌∙◌, length, sym, arith}
use Rattle.sa_waits.specs.Waits.{held}
use Rattle.sa_waits.proofs.Numbers.{pass, found, passed}
use Rattle.sa_waits.proofs.queues.mutex_of.Goals as goal

pub returns-in-Some : goal.returns-in-Some
returns-in-Some c =
    sym (c.loop-m.invariant
    ∙ found (held c.args.sync.now c.args.t.0) c.loop-m.m (length c.args.sync.now.mutexes) c.in-Some.found (omega arith) (sym c.in_ok-found.ensures ∙ c.in-Some.is))

pub loop-m-preserved : goal.loop-m-preserved
loop-m-preserved c =
    c.loop-m.invariant ∙ pass (held c.args.sync.now c.args.t.0) c.loop-m.m (length c.args.sync.now.mutexes) (omega arith) (sym c.in_ok-found.ensures ∙ c.in_default.is)

pub returns : goal.returns
returns c = sym (c.loop-m.invariant ∙ passed (held c.args.sync.now c.args.t.0) c.loop-m.m (length c.args.sync.now.mutexes) (omega arith))
