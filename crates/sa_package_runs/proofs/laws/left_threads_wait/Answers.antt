use Rattle.sa_fast_laws.proofs.FastLaws.{fast_level}
use Rattle.sa_prio_laws.proofs.PrioLaws.{prio_level}
use Rattle.sa_package_runs.proofs.Waiting.{fast-left, prio-left, left-wait}
use Rattle.sa_package_runs.proofs.laws.left_threads_wait.Goals as goal

pub returns-clause-fast : goal.returns-clause-fast
returns-clause-fast c = λ w budget ok. left-wait fast_level fast-left w budget ok

pub returns-clause-prio : goal.returns-clause-prio
returns-clause-prio c = λ w budget ok. left-wait prio_level prio-left w budget ok
