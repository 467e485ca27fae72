use Rattle.std.proofs.Common.{◌≡◌}
use Rattle.sa_gen.specs.Generated.{generated}
use Rattle.sa_cli.specs.Answers.{world}
use Rattle.sa_cli.specs.Commands.{load_plan}
use Rattle.sa_cli.proofs.Packages.{fast-kept}
use Rattle.sa_cli.proofs.Results.{ended-answers, stopped-answers}
use Rattle.sa_cli.proofs.commands.run_generated.Goals as goal

pub returns-in-Ok-run-clause-answers : goal.returns-in-Ok-run-clause-answers
returns-in-Ok-run-clause-answers g c = λ left reads.
    ended-answers (λ w. w ≡ generated c.args.number) (load_plan c.args.budget) fast-kept (world left _ reads _) (world left _ reads _) _ c.in-Ok-run.ended.trace
    c.in-Ok.workload c.in-Ok-run.ended.end c.in-Ok-run.ended.events _ c.write_last_line.ensures.ran c.in-Ok.ensures c.ranges-2.ensures c.in-Ok-run.ensures.ok
    c.write_last_line.ensures.status

pub returns-in-Err-clause-answers : goal.returns-in-Err-clause-answers
returns-in-Err-clause-answers g c = λ left reads.
    stopped-answers (λ w. w ≡ generated c.args.number) (load_plan c.args.budget) fast-kept (world left _ reads _) (world left _ reads _) _ c.in-Err.trace
    c.in-Ok.workload _ c.plain.ensures.ran c.plain.ensures.status c.in-Ok.ensures c.ranges-2.ensures c.in-Err.ensures.err
