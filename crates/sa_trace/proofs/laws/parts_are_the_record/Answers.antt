use Rattle.sa_trace.proofs.PartsLemmas.{remade, parts-back, fit-some}
use Rattle.sa_trace.proofs.laws.parts_are_the_record.Goals as goal

pub returns-clause-made : goal.returns-clause-made
returns-clause-made c = remade

pub returns-clause-parts : goal.returns-clause-parts
returns-clause-parts c = parts-back

pub returns-clause-fit : goal.returns-clause-fit
returns-clause-fit c = fit-some
