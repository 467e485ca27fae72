use Rattle.std.proofs.Common.{◌∙◌, sym, arith}
use Rattle.sa_base.specs.declared.limits.TheConstants.{MAX_THREADS}
use Rattle.sa_waits.specs.Waits.{joined}
use Rattle.sa_waits.proofs.Numbers.{pass, found, passed}
use Rattle.sa_waits.proofs.queues.thread_of.Goals as goal

pub returns-in-Some : goal.returns-in-Some
returns-in-Some c =
    sym (c.loop-j.invariant
    ∙ found (joined c.args.sync.now c.args.t.0) c.loop-j.j MAX_THREADS c.in-Some.found (omega arith) (sym c.in_ok-found.ensures ∙ c.in-Some.is))

pub loop-j-preserved : goal.loop-j-preserved
loop-j-preserved c =
    c.loop-j.invariant ∙ pass (joined c.args.sync.now c.args.t.0) c.loop-j.j MAX_THREADS (omega arith) (sym c.in_ok-found.ensures ∙ c.in_default.is)

pub returns : goal.returns
returns c = sym (c.loop-j.invariant ∙ passed (joined c.args.sync.now c.args.t.0) c.loop-j.j MAX_THREADS (omega arith))
