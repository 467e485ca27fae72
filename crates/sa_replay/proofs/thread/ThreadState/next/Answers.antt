use Rattle.std.proofs.Common.{◌≡◌, ap, arith}
use Rattle.sa_laws.specs.State.{Thread}
use Rattle.sa_laws.specs.Effect.{next}
use Rattle.sa_replay.proofs.thread.ThreadState.next.Goals as goal

pub overflow_add-thread : goal.overflow_add-thread
overflow_add-thread c =
    let same : c.thread.inside.pc ≡ c.args.self.now.pc = ap (λ (thread : Thread). thread.pc) c.thread.view_is in
    omega arith

pub returns : goal.returns
returns c = ap next c.thread.view_is
