use Rattle.sa_shapes.proofs.Lanes.{all-lanes}
use Rattle.sa_shapes.proofs.laws.lanes_are_there.Goals as goal

pub returns : goal.returns
returns c = all-lanes
