use Rattle.sa_sync.proofs.Steps.{waits-once}
use Rattle.sa_sync.proofs.state.SyncState.waits_once.Goals as goal

pub returns : goal.returns
returns c = waits-once c.self.inside c.args.self.now c.self.view_is c.self.invariant c.are_apart.ensures
