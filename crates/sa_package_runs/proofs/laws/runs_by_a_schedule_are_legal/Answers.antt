use Rattle.sa_fast_laws.proofs.FastLaws.{fast_level}
use Rattle.sa_package_runs.proofs.Whole.{so-far-legal, whole-legal}
use Rattle.sa_package_runs.proofs.laws.runs_by_a_schedule_are_legal.Goals as goal

pub returns : goal.returns
returns c = record { so_far = so-far-legal fast_level; whole = whole-legal fast_level }
