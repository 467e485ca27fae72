use Rattle.sa_legal_runs.proofs.runs.LegalRuns.{turns-are-strict}
use Rattle.sa_fast_laws.proofs.FastLaws.{fast_level}
use Rattle.sa_package_runs.proofs.laws.turns_are_strict.Goals as goal

pub returns : goal.returns
returns c = turns-are-strict fast_level
