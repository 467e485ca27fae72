use Rattle.sa_histories.proofs.Traces.{items-events}
use Rattle.sa_promises.proofs.laws.traces_are_histories.Goals as goal

pub returns : goal.returns
returns c = items-events
