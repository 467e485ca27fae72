use Rattle.sa_devices.proofs.SoundLemmas.{length-completed, length-evicted}
use Rattle.sa_devices.proofs.laws.spaces_stay.Goals as goal

pub returns-clause-completed : goal.returns-clause-completed
returns-clause-completed c = length-completed

pub returns-clause-evicted : goal.returns-clause-evicted
returns-clause-evicted c = length-evicted
