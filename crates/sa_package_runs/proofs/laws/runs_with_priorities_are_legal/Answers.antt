use Rattle.sa_prio_laws.proofs.PrioLaws.{prio_level}
use Rattle.sa_package_runs.proofs.Whole.{so-far-legal, whole-legal}
use Rattle.sa_package_runs.proofs.laws.runs_with_priorities_are_legal.Goals as goal

pub returns : goal.returns
returns c = record { so_far = so-far-legal prio_level; whole = whole-legal prio_level }
