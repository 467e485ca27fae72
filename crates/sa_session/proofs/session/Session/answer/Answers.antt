use Rattle.std.proofs.Common.{length, ap, arith}
use Rattle.sa_core.specs.View.{machine}
use Rattle.sa_driven_model.specs.Step.{driven_calls}
use Rattle.sa_session_runs.proofs.Asked.{space-within}
use Rattle.sa_session.specs.Views.{SessionView}
use Rattle.sa_session.proofs.session.Session.answer.Goals as goal

pub put-requires-after_bounds : goal.put-requires-after_bounds
put-requires-after_bounds c κs =
    let within = space-within driven_calls (machine c.args.self.now.core) c.args.p c.args.asked.now c.requires.asked in
    let size = ap (λ (s : SessionView). length (machine s.core).users) c.self.view_is in
    omega (arith, within, size)
