use Rattle.std.proofs.Common.{[], ◌∙◌, ap}
use Rattle.sa_batch.specs.Notices.{notes_of}
use Rattle.sa_batch.proofs.Batches.{notes-set}
use Rattle.sa_batch.proofs.notices.swap_with.Goals as goal

pub returns-clause-notes : goal.returns-clause-notes
returns-clause-notes c = notes-set c.args.batches.now.items c.args.i c.swap.new.x [] (ap notes_of c.swap.ensures.x_after ∙ c.requires.empty)
