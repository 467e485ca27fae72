use Rattle.sa_core.specs.View.{machine}
use Rattle.sa_explore_run.proofs.history.history.Goals as goal

pub returns : goal.returns
returns g c = record { machine = machine c.in_ok-core.core; lead = c.in_ok-core.ensures.leads; is = c.into_trace.ensures }
