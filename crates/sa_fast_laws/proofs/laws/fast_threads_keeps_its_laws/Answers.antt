use Rattle.sa_fast_laws.proofs.FastLaws.{fast-laws}
use Rattle.sa_fast_laws.proofs.laws.fast_threads_keeps_its_laws.Goals as goal

pub returns : goal.returns
returns c = fast-laws
