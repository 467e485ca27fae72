use Rattle.sa_svg.proofs.Plain.{plain-line}
use Rattle.sa_svg.proofs.laws.lines_are_plain.Goals as goal

pub returns : goal.returns
returns c = plain-line
