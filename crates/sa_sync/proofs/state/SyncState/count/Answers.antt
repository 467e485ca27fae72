use Rattle.std.proofs.Common.{ap, sym, ◌∙◌, arith}
use Rattle.std.proofs.lemmas.List.{get_or_default}
use Rattle.sa_sync.proofs.Steps.{semaphore_declared, semaphore_read}
use Rattle.sa_sync.proofs.state.SyncState.count.Goals as goal

pub index-requires : goal.index-requires
index-requires c = let h = semaphore_declared c.self.inside c.args.self.now c.self.view_is c.self.invariant c.args.k c.requires in omega arith

pub returns : goal.returns
returns c =
    c.index.ensures
    ∙ sym (get_or_default c.self.inside.counts.items c.args.k 0 _
    (semaphore_declared c.self.inside c.args.self.now c.self.view_is c.self.invariant c.args.k c.requires))
    ∙ sym (ap (λ x. x.count) (semaphore_read c.self.inside c.args.self.now c.self.view_is c.self.invariant c.args.k c.requires))
