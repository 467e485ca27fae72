use Rattle.sa_command.proofs.Ranges.{in-range}
use Rattle.sa_command.proofs.laws.commands_are_in_range.Goals as goal

pub returns : goal.returns
returns c = in-range
