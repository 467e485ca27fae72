use Rattle.std.proofs.Common.{◌∙◌, length, sym, arith}
use Rattle.sa_waits.specs.Waits.{counted}
use Rattle.sa_waits.proofs.Numbers.{pass, found, passed}
use Rattle.sa_waits.proofs.queues.semaphore_of.Goals as goal

pub returns-in-Some : goal.returns-in-Some
returns-in-Some c =
    sym (c.loop-k.invariant
    ∙ found (counted c.args.sync.now c.args.t.0) c.loop-k.k (length c.args.sync.now.semaphores) c.in-Some.found (omega arith) (sym c.in_ok-found.ensures ∙ c.in-Some.is))

pub loop-k-preserved : goal.loop-k-preserved
loop-k-preserved c =
    c.loop-k.invariant ∙ pass (counted c.args.sync.now c.args.t.0) c.loop-k.k (length c.args.sync.now.semaphores) (omega arith) (sym c.in_ok-found.ensures ∙ c.in_default.is)

pub returns : goal.returns
returns c = sym (c.loop-k.invariant ∙ passed (counted c.args.sync.now c.args.t.0) c.loop-k.k (length c.args.sync.now.semaphores) (omega arith))
