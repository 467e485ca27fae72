use Rattle.sa_trace.proofs.KindLemmas.{words-differ}
use Rattle.sa_trace.proofs.laws.words_differ.Goals as goal

pub returns : goal.returns
returns c = words-differ
