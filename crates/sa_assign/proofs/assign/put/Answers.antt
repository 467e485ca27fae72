use Rattle.sa_lemmas.proofs.ListUpdates.{refill-set}
use Rattle.sa_assign.proofs.assign.put.Goals as goal

pub returns : goal.returns
returns g c =
    refill-set c.args.cells.now.items c.deref_mut.result.now c.from.result c.args.p.0 c.args.value c.deref_mut.ensures.value c.from.ensures
