use Rattle.sa_batch.proofs.Batches.{notes-added}
use Rattle.sa_batch.proofs.notices.add_to.Goals as goal

pub returns-clause-notes : goal.returns-clause-notes
returns-clause-notes c =
    notes-added c.args.batches.now.items c.args.i c.index_mut.result.now c.add.new.self c.args.note c.requires.within c.index_mut.ensures.value
    c.add.ensures.notes
