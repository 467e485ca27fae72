use Rattle.sa_package_model.specs.Step.{fast_calls}
use Rattle.sa_package_model.specs.Stands.{fast_stands}
use Rattle.sa_package_model.proofs.Keeping.{fast_keeps}
use Rattle.sa_prio_model.specs.Step.{prio_calls}
use Rattle.sa_prio_model.specs.Stands.{prio_stands}
use Rattle.sa_prio_model.proofs.Keeping.{prio_keeps}
use Rattle.sa_outlook.proofs.outlooks.Runs.{turns-put-out-alike}
use Rattle.sa_package_outlook.specs.Contexts.{plain, IsMade, plain_prio, IsMadeFor}
use Rattle.sa_package_outlook.proofs.FastThreads.{fast-ignores-numbers}
use Rattle.sa_package_outlook.proofs.Priorities.{prio-ignores-numbers}
use Rattle.sa_package_outlook.proofs.laws.turns_put_out_alike.Goals as goal

pub returns : goal.returns
returns c = record {
  fast = turns-put-out-alike fast_calls plain IsMade fast-ignores-numbers fast_stands fast_keeps;
  priorities = turns-put-out-alike prio_calls plain_prio IsMadeFor prio-ignores-numbers prio_stands prio_keeps;
}
