use Rattle.sa_command.specs.declared.command.Command.TheVariants.{Threads}
use Rattle.sa_cli.proofs.TopCalls.{does}
use Rattle.sa_cli.proofs.calls.run_threads.Goals as goal

pub run_shared-requires-clause-some : goal.run_shared-requires-clause-some
run_shared-requires-clause-some g c κs within = c.requires.0.least

pub run_shared-requires-clause-few : goal.run_shared-requires-clause-few
run_shared-requires-clause-few g c κs within = c.requires.0.most

pub run_shared-requires-clause-some_burst : goal.run_shared-requires-clause-some_burst
run_shared-requires-clause-some_burst g c κs within = c.requires.1.least

pub run_shared-requires-clause-few_burst : goal.run_shared-requires-clause-few_burst
run_shared-requires-clause-few_burst g c κs within = c.requires.1.most

pub returns : goal.returns
returns g c =
    let said = c.run_shared.ensures in
    does (Threads c.args.limits.budget c.args.limits.burst) tt said.shared (λ load. absurd load) said.uses said.answers
