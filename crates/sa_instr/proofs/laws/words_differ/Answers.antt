use Rattle.sa_instr.proofs.OperationLemmas.{words-differ}
use Rattle.sa_instr.proofs.laws.words_differ.Goals as goal

pub returns : goal.returns
returns c = words-differ
