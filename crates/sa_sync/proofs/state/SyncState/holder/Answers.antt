use Rattle.std.proofs.Common.{ap, sym, arith}
use Rattle.sa_sync.proofs.Steps.{mutex_declared, mutex_read}
use Rattle.sa_sync.proofs.state.SyncState.holder.Goals as goal

pub index-requires : goal.index-requires
index-requires c = let h = mutex_declared c.self.inside c.args.self.now c.self.view_is c.self.invariant c.args.m c.requires in omega arith

pub returns : goal.returns
returns c =
    sym (ap (λ x. x.holder) (mutex_read c.self.inside c.args.self.now c.self.view_is c.self.invariant c.args.m _ c.requires c.index.ensures))
