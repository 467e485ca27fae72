use Rattle.toga_read.proofs.NamesFit.{names-fit}
use Rattle.toga_read.proofs.laws.names_fit.Goals as goal

pub returns : goal.returns
returns c = names-fit
