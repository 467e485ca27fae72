use Rattle.sa_prio_laws.proofs.PrioLaws.{prio_level}
use Rattle.sa_package_runs.proofs.Reaching.{can-be-debugged}
use Rattle.sa_package_runs.proofs.sessions.prio_threads_can_be_debugged.Goals as goal

pub returns : goal.returns
returns c = can-be-debugged prio_level
