use Rattle.sa_fast_laws.proofs.FastLaws.{fast_level}
use Rattle.sa_package_runs.proofs.Reaching.{can-be-debugged}
use Rattle.sa_package_runs.proofs.sessions.fast_threads_can_be_debugged.Goals as goal

pub returns : goal.returns
returns c = can-be-debugged fast_level
