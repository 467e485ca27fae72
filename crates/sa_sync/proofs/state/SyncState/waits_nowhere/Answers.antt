use Rattle.std.proofs.Common.{sym, ◌∙◌}
use Rattle.sa_sync.proofs.Steps.{queues_are, waits-nowhere}
use Rattle.sa_sync.proofs.state.SyncState.waits_nowhere.Goals as goal

pub returns : goal.returns
returns c = (
  λ free. sym (queues_are c.self.inside c.args.self.now c.self.view_is c.self.invariant c.args.t.0) ∙ c.is_free.ensures.0 free,
  λ nowhere. c.is_free.ensures.1 (waits-nowhere c.self.inside c.args.self.now c.self.view_is c.self.invariant c.args.t.0 nowhere),
)
