use Rattle.sa_legal_runs.proofs.runs.LegalRuns.{runs-follow, runs-number, runs-count}
use Rattle.sa_fast_laws.proofs.FastLaws.{fast_level}
use Rattle.sa_package_runs.proofs.laws.events_follow_the_moves.Goals as goal

pub returns : goal.returns
returns c = record { processors = runs-follow fast_level; numbers = runs-number fast_level; count = runs-count fast_level }
