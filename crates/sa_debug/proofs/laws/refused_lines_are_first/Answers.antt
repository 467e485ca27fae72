use Rattle.sa_debug.proofs.script.FirstBad.{refused-first, first-one}
use Rattle.sa_debug.proofs.laws.refused_lines_are_first.Goals as goal

pub returns-clause-first : goal.returns-clause-first
returns-clause-first c = refused-first

pub returns-clause-one : goal.returns-clause-one
returns-clause-one c = first-one
