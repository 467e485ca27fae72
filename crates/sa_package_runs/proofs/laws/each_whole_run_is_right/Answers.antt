use Rattle.sa_legal_runs.proofs.runs.RightTraces.{runs-are-right}
use Rattle.sa_fast_laws.proofs.FastLaws.{fast_level}
use Rattle.sa_package_runs.proofs.laws.each_whole_run_is_right.Goals as goal

pub returns : goal.returns
returns c = runs-are-right fast_level
