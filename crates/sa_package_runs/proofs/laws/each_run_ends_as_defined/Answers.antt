use Rattle.sa_legal_runs.proofs.runs.LegalRuns.{runs-end}
use Rattle.sa_fast_laws.proofs.FastLaws.{fast_level}
use Rattle.sa_package_runs.proofs.laws.each_run_ends_as_defined.Goals as goal

pub returns : goal.returns
returns c = runs-end fast_level
