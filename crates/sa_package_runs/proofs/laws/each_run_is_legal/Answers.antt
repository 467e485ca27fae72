use Rattle.sa_legal_runs.proofs.runs.LegalRuns.{runs-are-legal}
use Rattle.sa_fast_laws.proofs.FastLaws.{fast_level}
use Rattle.sa_package_runs.proofs.laws.each_run_is_legal.Goals as goal

pub returns : goal.returns
returns c = runs-are-legal fast_level
